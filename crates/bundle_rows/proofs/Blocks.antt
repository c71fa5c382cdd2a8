-- The Jacobian as one block a frame: where a frame's rows begin, and the block that it has. Assumes nothing.
use Prim.Native.Nat.{ℕ, zero, suc, ◌+◌, ◌*◌, ◌<◌, ◌≤◌}
use mathlib.Core.Path.{◌≡◌, sym, ap, ap₂, ◌∙◌}
use mathlib.Core.Bool.{◌&&◌}
use mathlib.Core.List.{List, [], ◌∷◌, ◌++◌, append_assoc, append-nil}
use native.Mathlib.Nat.{add_assoc, add-suc, add-zero, zero-add, zero-mul, suc-mul}
use native.Mathlib.Numerals.{add-one}
use native.Mathlib.Omega.{arith}
use lib.Dec.{ltb, leb}
use lib.ListN.{length, get_or, take, drop, take-append-drop, replicate, get_or-replicate}
use lib.Seq.{take-suc, drop-drop, get_or-append-add, get_or-take, get_or-drop}
use lib.Ieee.{Float, nan}
use borrow.Rule.Slice.PartMut.{put_mid}
use Rattle.sums.specs.Sum.{zero_f, tab, grid}
use Rattle.sums.specs.Laws.{length-grid, grid-same, grid-column, tab-get_or, cell}
use Rattle.sums.specs.Fill.{written, Columns, column_ends}
use Rattle.lists.specs.Part.{◌!◌}
use Rattle.terms.specs.Terms.{cell_of, within}
use Rattle.terms.proofs.Cells.{in_within}
use Rattle.terms.proofs.Places.{row_is, column_is, grid_of_cells}
use Rattle.bundle_rows.specs.Rows.{total, start, in_frame, frame_cell, jacobian_cell}
use Rattle.bundle_rows.specs.Steps.{state_cell, Put}

-- ---- the counts' sums
pub total-append : (a b : List ℕ) → total (a ++ b) ≡ total a + total b
unfolding total
total-append [] b = sym (zero-add (total b))
total-append (n ∷ a) b = rw (total-append a b, add_assoc)

-- the next frame starts where this one ends
pub start_more : (counts : List ℕ) (f : ℕ) → f < length counts → start counts (f + 1) ≡ start counts f + get_or counts f 0
unfolding start total
start_more counts f h = rw (add-one f, take-suc counts f 0 h) (total-append (take f counts) (get_or counts f 0 ∷ []) ∙ rw add-zero)

pub start-within : (counts : List ℕ) (f : ℕ) → start counts f ≤ total counts
unfolding start
start-within counts f =
    let e : total counts ≡ total (take f counts) + total (drop f counts) = ap total (sym (take-append-drop f counts)) ∙ total-append (take f counts) (drop f counts) in
    omega arith

-- ---- matrices side by side
grid-append : (rows a b : ℕ) (f : ℕ → ℕ → Float) → grid rows (a + b) f ≡ grid rows a f ++ grid rows b (λ r c. f r (a + c))
grid-append rows a zero f = rw (add-zero, append-nil)
grid-append rows a (suc b) f =
    rw (add-suc, grid-column rows b (λ r c. f r (a + c)), ← append_assoc (grid rows a f) _ _, ← grid-append rows a b f) (grid-column rows (a + b) f)

-- ---- frame f's block
module _ (counts : List ℕ) (dof : ℕ) (state n : List Float) (info : Float) (rows : ℕ) where
  abbrev pub block_of : ℕ → List Float
  block_of f = grid rows dof (λ k c. frame_cell counts dof state n info f c k)

  abbrev pub block_number : ℕ → ℕ → Float
  block_number i f = block_of f ! i

  -- the Jacobian's column f·dof + c is column c of frame f
  as_frame : (f c k : ℕ) → c < dof → jacobian_cell counts dof state n info k (f * dof + c) ≡ frame_cell counts dof state n info f c k
  unfolding jacobian_cell
  as_frame f c k h = rw (column_is dof c f h, row_is dof c f h)

  -- the rows of frame f are those from its start on
  own_rows : (f from count k : ℕ) → from ≡ start counts f → start counts (f + 1) ≡ from + count → within from count k ≡ in_frame counts f k
  unfolding in_frame
  own_rows f from count k e next = ap₂ (λ (a b : ℕ). leb a k && ltb k b) e (sym next)

  -- what a block of zeros becomes once the rows of frame f's points are put
  pub block-put : (f from count : ℕ) (j j' : List Float) → from ≡ start counts f → start counts (f + 1) ≡ from + count → length j ≡ dof * rows → ((p : ℕ) → p < dof * rows → j ! p ≡ zero_f)
      → Put rows dof from count 0 dof (state_cell dof state n info) j j' → j' ≡ block_of f
  unfolding frame_cell state_cell
  block-put f from count j j' e next size zeros p =
      grid_of_cells rows dof _ j' (p.size ∙ size) (λ k c a b. p.cells k c a b ∙ rw (in_within 0 dof c (omega arith) (omega arith), zeros (cell_of rows k c) (cell rows dof k c a b), own_rows f from count k e next))

  -- and the block written to its part of the Jacobian
  pub block_written : (out : List Float) (f at size : ℕ) (new : List Float) → size ≡ dof * rows → new ≡ block_of f → put_mid at size out new ≡ written out at (dof * rows) (λ i. block_number i f)
  unfolding written
  block_written out f at size new e b =
      rw (e, b, tab-get_or (dof * rows) (block_of f) (length-grid rows dof _), drop-drop (dof * rows) at out)

  -- before that, the part holds zeros
  pub block_zeros : (frames f at size : ℕ) (l out : List Float) → l ≡ replicate (frames * (dof * rows)) zero_f → Columns (dof * rows) frames block_number l out f → f < frames → at ≡ f * (dof * rows) → size ≡ dof * rows
      → (p : ℕ) → p < dof * rows → take size (drop at out) ! p ≡ zero_f
  block_zeros frames f at size l out zeros done here e s p h =
      let front : length (grid (dof * rows) f block_number) ≡ f * (dof * rows) = length-grid (dof * rows) f block_number in
      let inside : f * (dof * rows) + p < frames * (dof * rows) = omega (arith, column_ends (dof * rows) frames f here) in
      let after : get_or out (f * (dof * rows) + p) nan ≡ get_or (drop (f * (dof * rows)) l) p nan = rw done.filled (rw front at (get_or-append-add (grid (dof * rows) f block_number) (drop (f * (dof * rows)) l) p nan)) in
      rw (s, e) (get_or-take (dof * rows) (drop (f * (dof * rows)) out) p nan h ∙ get_or-drop (f * (dof * rows)) out p nan ∙ after ∙ get_or-drop (f * (dof * rows)) l p nan
      ∙ rw zeros (get_or-replicate (frames * (dof * rows)) (f * (dof * rows) + p) zero_f nan inside))

  -- the blocks one after the other are the Jacobian
  pub blocks_are : (frames : ℕ) → grid (dof * rows) frames block_number ≡ grid rows (frames * dof) (jacobian_cell counts dof state n info)
  blocks_are zero = rw zero-mul
  blocks_are (suc frames) =
      let block : tab (dof * rows) (λ i. block_number i frames) ≡ block_of frames = tab-get_or (dof * rows) (block_of frames) (length-grid rows dof _) in
      let same : block_of frames ≡ grid rows dof (λ k c. jacobian_cell counts dof state n info k (frames * dof + c)) = grid-same rows dof _ _ (λ k c a b. sym (as_frame frames c k b)) in
      rw (grid-column (dof * rows) frames block_number, block, same, blocks_are frames, suc-mul) (sym (grid-append rows (frames * dof) dof (jacobian_cell counts dof state n info)))
