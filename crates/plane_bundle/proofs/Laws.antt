-- What is known of a bundle where tests do not apply. Assumes nothing.
use Prim.Native.Nat.{ℕ, zero, suc, ◌+◌, ◌*◌, ◌/◌, ◌%◌, ◌≤◌}
use mathlib.Core.Path.{◌≡◌, refl, sym, ap, ◌∙◌}
use mathlib.Core.Bool.{Bool, true, false, not, ◌||◌}
use mathlib.Core.List.{List, [], ◌∷◌, ◌++◌}
use native.Mathlib.Numerals.{add-one}
use native.Mathlib.Nat.{div-add-mod', mul-div_cancel}
use native.Mathlib.Omega.{arith}
use lib.Dec.{ltb, eqb}
use lib.ListN.{length, get_or, take}
use lib.Seq.{take_all}
use lib.Ieee.{Float}
use borrow.Author.Tests.{ltb-false, eqb-true, not-false}
use Rattle.std.specs.List.{list_any}
use Rattle.std.proofs.lemmas.List.Folds.{list_any_more}
use Rattle.refusals.specs.Refusal.{Reason, ◌when◌, first_of, none, either_none}
use Rattle.normal_blocks.specs.Somewhere.{somewhere}
use Rattle.plane_fit.specs.Calls.{most_frames}
use Rattle.bundle_points.specs.Points.{most_points, point_count}
use Rattle.bundle_rows.specs.Rows.{total}
use Rattle.plane_bundle.specs.Calls.{row_count, bad_points, some_empty, too_few, not_finite, bundle_reasons}
use Rattle.plane_bundle.specs.Steps.{count_refusal, shape_refusal, Shaped}

-- a search of a list, as code makes it with `any`, is one of its places
module _ (test : ℕ → Bool) (xs : List ℕ) where
  first : (i : ℕ) → i ≤ length xs → list_any test (take i xs) ≡ somewhere i (λ k. test (get_or xs k 0))
  unfolding somewhere
  first zero h = refl
  first (suc i) h =
      let more : list_any test (take (i + 1) xs) ≡ (list_any test (take i xs) || test (get_or xs i 0)) = list_any_more test xs i 0 (omega arith) in
      (rw add-one at more) ∙ rw (first i (omega arith))

  pub any_somewhere : list_any test xs ≡ somewhere (length xs) (λ k. test (get_or xs k 0))
  any_somewhere = ap (list_any test) (sym (take_all (length xs) xs (omega arith))) ∙ first (length xs) (omega arith)

module _ (counts : List ℕ) (points fixed : List Float) where
  pub shaped : bad_points counts points fixed ≡ false → Shaped counts points fixed
  unfolding bad_points
  shaped h =
      let a = either_none (ltb most_frames (length counts)) _ h in
      let b = either_none (not (eqb (length points) (total counts * 3))) _ a.1 in
      let c = either_none (not (eqb (length fixed % 3) 0)) _ b.1 in
      let p : length points ≡ total counts * 3 = eqb-true (length points) (total counts * 3) (not-false _ b.0) in
      let q : length fixed % 3 ≡ 0 = eqb-true (length fixed % 3) 0 (not-false _ c.0) in
      let n : point_count points ≡ total counts = ap (λ (m : ℕ). m / 3) p ∙ mul-div_cancel (total counts) (omega arith) in
      let r : row_count counts fixed ≤ most_points = ltb-false most_points (row_count counts fixed) c.1 in
      record {
        frames = ltb-false most_frames (length counts) a.0;
        counted = n;
        taken = record { whole = p ∙ ap (λ (m : ℕ). m * 3) (sym n); fixed_whole = omega (arith, div-add-mod' (length fixed) 3); few = omega arith };
      }

  -- 4 and 5 by the lengths of the lists
  pub counts_by : bad_points counts points fixed ≡ false → (misfit : Bool) → misfit ≡ false → (some : eqb (length counts) 0 ≡ false) → count_refusal counts (point_count points + point_count fixed) ≡ shape_refusal counts points fixed misfit
  unfolding count_refusal shape_refusal too_few
  counts_by good misfit fits some = rw (some, good, fits, (shaped good).counted)

  module _ (misfit : Bool) where
    -- a refusal by 2 to 5 is the call's, whatever tests come after
    pub shape-refused : (rest : List Reason) (k : ℕ) → (k ≡ 0 → ⊥) → shape_refusal counts points fixed misfit ≡ k → first_of (bundle_reasons counts points fixed misfit ++ rest) ≡ k
    unfolding shape_refusal
    shape-refused rest zero some h = absurd (some refl)
    shape-refused rest (suc k) some h = go (eqb (length counts) 0) (bad_points counts points fixed || misfit) (some_empty counts) (too_few counts fixed) h
      where
        go : (a b c d : Bool) → first_of (2 when a ∷ 3 when b ∷ 4 when c ∷ 5 when d ∷ []) ≡ suc k
            → first_of (2 when a ∷ 3 when b ∷ 4 when c ∷ 5 when d ∷ 6 when not_finite points fixed ∷ rest) ≡ suc k
        go true b c d h = h
        go false true c d h = h
        go false false true d h = h
        go false false false true h = h
        go false false false false h = absurd (omega arith)

    -- and without one, 6 is next
    pub shape_passed : (rest : List Reason) → shape_refusal counts points fixed misfit ≡ 0 → (bad_points counts points fixed ≡ false) × (misfit ≡ false) × (first_of (bundle_reasons counts points fixed misfit ++ rest) ≡ first_of (6 when not_finite points fixed ∷ rest))
    unfolding shape_refusal
    shape_passed rest h =
        let two = none (eqb (length counts) 0) 1 _ h in
        let three = none (bad_points counts points fixed || misfit) 2 _ two.1 in
        let four = none (some_empty counts) 3 _ three.1 in
        let five = none (too_few counts fixed) 4 _ four.1 in
        let p = either_none (bad_points counts points fixed) misfit three.0 in
        (p.0, p.1, rw (two.0, three.0, four.0, five.0))
