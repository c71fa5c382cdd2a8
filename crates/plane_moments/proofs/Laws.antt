-- The tests of a build in two parts are its tests, and what is known where the first part, or both, do not apply. Assumes nothing.
use Prim.Native.Nat.{ℕ}
use mathlib.Core.Path.{◌≡◌}
use mathlib.Core.Bool.{false, not}
use mathlib.Core.List.{List, [], ◌∷◌}
use lib.Dec.{ltb, eqb}
use lib.ListN.{length}
use lib.Ieee.{Float}
use Rattle.refusals.specs.Refusal.{◌when◌, first_of, none, kept}
use Rattle.refusals.proofs.Laws.{first_of_both}
use Rattle.validate.specs.Finite.{finite_positive}
use Rattle.derivative.specs.Action.{most_dof}
use Rattle.frame_sets.specs.Sets.{some_empty, not_finite, count_reasons}
use Rattle.plane_moments.specs.Build.{bad_shapes, build_refusal, Whole, whole_sets}
use Rattle.plane_moments.specs.Steps.{shape_reasons, shape_refusal, set_reasons, set_refusal}

-- 4 and 5, and then 6 and 7
pub sets_in_parts : (frames fixed : List Float) (sigma : Float) → let counts = first_of (count_reasons frames fixed) in
    set_refusal frames fixed sigma ≡ kept counts counts (first_of (6 when not_finite frames fixed ∷ 7 when not (finite_positive sigma) ∷ []))
unfolding set_refusal
sets_in_parts frames fixed sigma = first_of_both (count_reasons frames fixed) (6 when not_finite frames fixed ∷ 7 when not (finite_positive sigma) ∷ []) tt

-- no frame is empty where 4 to 7 do not apply
pub sets_filled : (frames fixed : List Float) (sigma : Float) → set_refusal frames fixed sigma ≡ 0 → some_empty frames ≡ false
unfolding set_refusal
sets_filled frames fixed sigma h = (none (some_empty frames) 3 _ h).0

module _ (dof : ℕ) (frames fixed : List Float) (out_frames out_fixed : List Float) where
  -- the lists are whole where 1, 2 and 3 do not apply
  pub shape_whole : shape_refusal dof frames fixed out_frames out_fixed ≡ 0 → Whole frames fixed out_frames out_fixed
  unfolding shape_refusal
  shape_whole h =
      let one = none (ltb most_dof dof) 0 _ h in
      let two = none (eqb (length frames) 0) 1 _ one.1 in
      whole_sets frames fixed out_frames out_fixed (none (bad_shapes frames fixed out_frames out_fixed) 2 _ two.1).0

  pub in_two_parts : (sigma : Float) → let shape = shape_refusal dof frames fixed out_frames out_fixed in
      build_refusal dof frames fixed sigma out_frames out_fixed ≡ kept shape shape (set_refusal frames fixed sigma)
  unfolding build_refusal shape_refusal set_refusal
  in_two_parts sigma = first_of_both (shape_reasons dof frames fixed out_frames out_fixed) (set_reasons frames fixed sigma) tt
