-- How the code holds an action's derivative columns: by rows, so that the numbers of one row of three are neighbours. And the law that ties
-- the row of a match that is worked out from it to the row itself. Assumes nothing.
use Rattle.std.specs.Prelude.{ℕ, zero, suc, ◌+◌, ◌*◌, ◌/◌, ◌%◌, ◌<◌, ◌≤◌, ◌≡◌, refl, List, get_or, Float}
use Rattle.std.proofs.Common.{zero-add, arith, sym, ap, ◌∙◌}
use Rattle.std.specs.Float.{nan}
use Rattle.sums.specs.Sum.{◌⊗◌, sum_to, sum_from, grid, off}
use Rattle.sums.specs.Laws.{sum_to-same, at-grid, off-add}
use Rattle.lists.specs.Part.{◌!◌}
use Rattle.derivative.specs.Derivative.{normal_row, shifted}
use Rattle.map_plane.specs.Match.{match_at, point, normal, information}
use Rattle.match_rows.specs.Row.{row_of, information_at, row_at}

-- entry c of row e of the four matrices `origin` and `axes` one below the other: twelve rows of nine
abbrev pub by_rows_at : List Float → ℕ → ℕ → Float
by_rows_at x c e = x ! (12 + 27 * (e / 3) + e % 3 + 3 * c)

unfoldable pub by_rows : List Float → List Float
by_rows x = grid 9 12 (by_rows_at x)

-- b + c, and c itself where b is the numeral 0, as code writes it
abbrev pub front : ℕ → ℕ → ℕ
front zero c = c
front (suc b) c = suc b + c

-- Σ_r n_r·M(r,c) for matrix k of the four
abbrev pub normal_by : List Float → List Float → ℕ → ℕ → Float
normal_by t n k c = sum_to 3 (λ r. n ! r ⊗ t ! front ((3 * k + r) * 9) c)

-- the row's number c
abbrev pub row_by : List Float → List Float → List Float → Float → ℕ → Float
row_by t s n info c = sum_from (normal_by t n 0 c) 3 (λ l. normal_by t n (suc l) c ⊗ s ! l) ⊗ info

-- the same of match k of a list, scaled by info
unfoldable pub row_by_at : List Float → List Float → ℕ → Float → ℕ → Float
row_by_at t ms k info c = row_by t (point (match_at ms k)) (normal (match_at ms k)) info c

-- ---- laws
front-add : (b c : ℕ) → front b c ≡ b + c
front-add zero c = sym (zero-add c)
front-add (suc b) c = refl

at_rows : (x : List Float) (e c : ℕ) → e < 12 → c < 9 → get_or (by_rows x) (front (e * 9) c) nan ≡ by_rows_at x c e
unfolding by_rows
at_rows x e c h l =
    ap (λ i. get_or (grid 9 12 (by_rows_at x)) i nan) (front-add (e * 9) c ∙ sym (off-add (e * 9) c)) ∙ at-grid 9 12 (by_rows_at x) c e l h

normal-rows : (x n : List Float) (k c : ℕ) → k < 4 → c < 9 → normal_by (by_rows x) n k c ≡ normal_row x (12 + 27 * k) n c
unfolding normal_row
normal-rows x n k c h l =
    sum_to-same 3 (λ r. n ! r ⊗ by_rows x ! front ((3 * k + r) * 9) c) (λ r. n ! r ⊗ x ! off (12 + 27 * k + 3 * c) r)
    (λ r m. ap (λ v. n ! r ⊗ v) (at_rows x (3 * k + r) c (omega arith) l ∙ ap (λ i. x ! i) (place k r m ∙ sym (off-add (12 + 27 * k + 3 * c) r))))
  where
    place : (k r : ℕ) → r < 3 → 12 + 27 * ((3 * k + r) / 3) + (3 * k + r) % 3 + 3 * c ≡ 12 + 27 * k + 3 * c + r
    place k r m = omega arith

row_by_rows : (x s n : List Float) (info : Float) (c : ℕ) → c < 9 → row_by (by_rows x) s n info c ≡ row_of x s n info c
unfolding shifted
row_by_rows x s n info c l =
    cc (
      normal-rows x n 0 c (omega arith) l,
      normal-rows x n 1 c (omega arith) l,
      normal-rows x n 2 c (omega arith) l,
      normal-rows x n 3 c (omega arith) l,
    )

-- a number of the row of match k, worked out from the action by rows and the match's information
pub row_is : (x t ms : List Float) (k : ℕ) (info : Float) (dof c : ℕ) → t ≡ by_rows x → info ≡ information_at ms k → dof ≤ 9 → c < dof → row_by_at t ms k info c ≡ row_at x ms k c
unfolding row_by_at row_at information_at
row_is x t ms k info dof c e i w h =
    let m = match_at ms k in
    ap (λ (t : List Float). row_by t (point m) (normal m) info c) e
    ∙ ap (λ (info : Float). row_by (by_rows x) (point m) (normal m) info c) i
    ∙ row_by_rows x (point m) (normal m) (information m) c (omega arith)
