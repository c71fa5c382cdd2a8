-- The tests of a build in two parts: those of numbers of parameters and sets, and those of moments and sigma. Definitions only.
use Rattle.std.specs.Prelude.{ℕ, not, List, [], ◌∷◌, ◌++◌, ltb, eqb, length, Float}
use Rattle.refusals.specs.Refusal.{Reason, ◌when◌, first_of}
use Rattle.validate.specs.Finite.{finite_positive}
use Rattle.derivative.specs.Action.{most_dof}
use Rattle.frame_sets.specs.Sets.{count_reasons, not_finite}
use Rattle.plane_moments.specs.Build.{bad_shapes}

-- 1, 2 and 3
abbrev pub shape_reasons : ℕ → List Float → List Float → List Float → List Float → List Reason
shape_reasons dof frames fixed out_frames out_fixed =
    1 when ltb most_dof dof ∷ 2 when eqb (length frames) 0 ∷ 3 when bad_shapes frames fixed out_frames out_fixed ∷ []

unfoldable pub shape_refusal : ℕ → List Float → List Float → List Float → List Float → ℕ
shape_refusal dof frames fixed out_frames out_fixed = first_of (shape_reasons dof frames fixed out_frames out_fixed)

-- 4 to 7
abbrev pub set_reasons : List Float → List Float → Float → List Reason
set_reasons frames fixed sigma = count_reasons frames fixed ++ 6 when not_finite frames fixed ∷ 7 when not (finite_positive sigma) ∷ []

unfoldable pub set_refusal : List Float → List Float → Float → ℕ
set_refusal frames fixed sigma = first_of (set_reasons frames fixed sigma)
