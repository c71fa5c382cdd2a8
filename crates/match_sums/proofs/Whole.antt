-- From the upper half to the whole block: row_i·row_j and row_j·row_i are the same terms in the same order. Assumes nothing.
use Rattle.std.specs.Prelude.{ℕ, ◌+◌, ◌*◌, ◌<◌, ◌≤◌, ◌≡◌, Bool, List, Float}
use Rattle.std.proofs.Common.{arith, sym, ◌∙◌}
use Rattle.std.proofs.Math.Path.{refl, ap}
use Rattle.std.proofs.Math.Bool.{true, false, cond}
use Rattle.std.proofs.Math.Dec.{leb}
use borrow.Author.Tests.{leb-true, leb-false}
use Rattle.sums.specs.Sum.{zero_f, sum_from, grid}
use Rattle.sums.specs.Laws.{⊗_comm, at-grid, off-add, sum_from-same}
use Rattle.lists.specs.Part.{◌!◌}
use Rattle.match_rows.specs.Row.{row_at}
use Rattle.match_sums.specs.Groups.{GROUP, groups, group_size, group_sum, by_groups, block_term, vector_term, match_count, list_block, list_vector}
use Rattle.match_sums.specs.Cells.{upper_place, cell, Summed}

pub by_groups-same : (n : ℕ) (f g : ℕ → Float) → ((k : ℕ) → f k ≡ g k) → by_groups n f ≡ by_groups n g
unfolding by_groups group_sum
by_groups-same n f g h =
    sum_from-same zero_f (groups n) (group_sum n f) (group_sum n g) (λ q l. sum_from-same zero_f (group_size n q) (λ k. f (q * GROUP + k)) (λ k. g (q * GROUP + k)) (λ k m. h (q * GROUP + k)))

block_flipped : (x ms : List Float) (i j : ℕ) → list_block x ms i j ≡ list_block x ms j i
unfolding list_block block_term
block_flipped x ms i j = by_groups-same (match_count ms) (block_term x ms i j) (block_term x ms j i) (λ k. ⊗_comm (row_at x ms k i) (row_at x ms k j))

-- what the groups leave in cells and numbers that were +0
module _ (x ms : List Float) (dof : ℕ) (z y up v : List Float) (w : dof ≤ 9) (zs : (p : ℕ) → p < 81 → z ! p ≡ zero_f) (ys : (p : ℕ) → p < 9 → y ! p ≡ zero_f)
    (s : Summed dof (groups (match_count ms)) (λ i j. group_sum (match_count ms) (block_term x ms i j)) (λ i. group_sum (match_count ms) (vector_term x ms i)) z y up v) where
  upper_sum : (i j : ℕ) → i ≤ j → j < dof → cell up i j ≡ list_block x ms i j
  unfolding list_block by_groups
  upper_sum i j l m =
      s.cells i j l m ∙ ap (λ v. sum_from v (groups (match_count ms)) (group_sum (match_count ms) (block_term x ms i j))) (zs (j * 9 + i) (omega arith))

  pub whole_cell : (i j : ℕ) → i < dof → j < dof → cell (grid 9 9 (λ i j. up ! upper_place i j)) i j ≡ list_block x ms i j
  unfolding upper_place
  whole_cell i j h l =
      ap (λ p. grid 9 9 (λ i j. up ! upper_place i j) ! p) (sym (off-add (j * 9) i))
      ∙ at-grid 9 9 (λ i j. up ! upper_place i j) i j (omega arith) (omega arith)
      ∙ go (leb i j) refl
    where
      go : (b : Bool) → leb i j ≡ b → up ! cond b (j * 9 + i) (i * 9 + j) ≡ list_block x ms i j
      go true e = upper_sum i j (leb-true i j e) l
      go false e =
          let f : j < i = leb-false i j e in
          upper_sum j i (omega arith) h ∙ block_flipped x ms j i

  pub whole_number : (i : ℕ) → i < dof → v ! i ≡ list_vector x ms i
  unfolding list_vector by_groups
  whole_number i l =
      s.numbers i l ∙ ap (λ v. sum_from v (groups (match_count ms)) (group_sum (match_count ms) (vector_term x ms i))) (ys i (omega arith))
