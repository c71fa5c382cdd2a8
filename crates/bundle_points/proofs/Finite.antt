-- Finite sums have finite terms only: a sum leaves neither an infinity nor a NaN again. Assumes nothing.
use Prim.Native.Nat.{ℕ, zero, suc, ◌+◌, ◌*◌, ◌/◌, ◌%◌, ◌<◌}
use mathlib.Core.Path.{◌≡◌, refl, sym}
use mathlib.Core.Bool.{true, false, true≢false}
use mathlib.Core.List.{List}
use mathlib.Core.Logic.{⊎_elim}
use native.Mathlib.Nat.{not-suc-le-zero, mod-lt, div-lt_iff_lt-mul, div-add-mod', eq-or-lt_of_le, le_of_suc-le-suc}
use native.Mathlib.Omega.{arith}
use lib.ListN.{length}
use lib.Ieee.{Float, nan, inf, fin, add}
use lib.Ieee.Scale.{finite}
use Rattle.sums.specs.Sum.{◌⊕◌, sum_from, tab}
use Rattle.sums.specs.Laws.{off-add}
use Rattle.lists.specs.Part.{◌!◌}
use Rattle.validate.specs.Finite.{all_finite}
use Rattle.validate.proofs.Laws.{finite_at, finite_all}
use Rattle.bundle_points.specs.Points.{point_count, coordinate, coordinate_sum}
use Rattle.bundle_points.specs.Steps.{Whole}

finite_terms : (x y : Float) → finite (x ⊕ y) ≡ true → (finite x ≡ true) × (finite y ≡ true)
unfolding add
finite_terms nan y h = absurd (true≢false (sym h))
finite_terms (inf s) nan h = absurd (true≢false (sym h))
finite_terms (inf true) (inf true) h = absurd (true≢false (sym h))
finite_terms (inf true) (inf false) h = absurd (true≢false (sym h))
finite_terms (inf false) (inf true) h = absurd (true≢false (sym h))
finite_terms (inf false) (inf false) h = absurd (true≢false (sym h))
finite_terms (inf s) (fin t n d) h = absurd (true≢false (sym h))
finite_terms (fin s m e) nan h = absurd (true≢false (sym h))
finite_terms (fin s m e) (inf t) h = absurd (true≢false (sym h))
finite_terms (fin s m e) (fin t n d) h = (refl, refl)

term_finite : (a : Float) (n : ℕ) (f : ℕ → Float) → finite (sum_from a n f) ≡ true → (k : ℕ) → k < n → finite (f k) ≡ true
term_finite a zero f h k l = absurd (not-suc-le-zero l)
term_finite a (suc n) f h k l =
    let t = finite_terms (sum_from a n f) (f n) h in
    ⊎_elim (λ (e : k ≡ n). rw e t.1) (λ (j : k < n). term_finite a n f t.0 k j) (eq-or-lt_of_le (le_of_suc-le-suc l))

-- number i of a list is coordinate i % 3 of point i / 3
module _ (all : List Float) (whole : Whole all) (sums : all_finite (tab 3 (coordinate_sum all)) ≡ true) where
  sum_finite : (r : ℕ) → r < 3 → finite (coordinate_sum all r) ≡ true
  sum_finite zero h = finite_at (tab 3 (coordinate_sum all)) sums 0 (omega arith)
  sum_finite (suc zero) h = finite_at (tab 3 (coordinate_sum all)) sums 1 (omega arith)
  sum_finite (suc (suc zero)) h = finite_at (tab 3 (coordinate_sum all)) sums 2 (omega arith)
  sum_finite (suc (suc (suc r))) h = absurd (omega arith)

  number_finite : (i : ℕ) → i < length all → finite (all ! i) ≡ true
  unfolding coordinate_sum coordinate
  number_finite i h =
      let r : i % 3 < 3 = mod-lt i (omega arith) in
      let k : i / 3 < point_count all = (div-lt_iff_lt-mul {k = 3} {x = i} {y = point_count all} (omega arith)).1 (rw whole at h) in
      let e : i / 3 * 3 + i % 3 ≡ i = div-add-mod' i 3 in
      rw (off-add (i / 3 * 3) (i % 3), e) at (term_finite _ (point_count all) (coordinate all (i % 3)) (sum_finite (i % 3) r) (i / 3) k)

  pub all_finite_lem : all_finite all ≡ true
  all_finite_lem = finite_all all number_finite
