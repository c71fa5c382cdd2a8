-- Building a frame factor by the survey rule: a fixed count is not below 0, and the total counts only sets that are kept. Definitions only.
-- frames: the moments of each frame; fixed: nothing, or one set's moments; outputs, and what an accepted call leaves, are those of the build.
use Rattle.std.specs.Prelude.{ℕ, Bool, not, cond, List, [], ◌∷◌, ltb, eqb, length, Float}
use Rattle.std.specs.Float.Ieee.{lt}
use Rattle.refusals.specs.Refusal.{◌when◌, first_of, Answered}
use Rattle.sums.specs.Sum.{◌⊕◌, zero_f}
use Rattle.validate.specs.Finite.{finite_positive}
use Rattle.derivative.specs.Action.{most_dof}
use Rattle.frame_sets.specs.Sets.{count_sum, fixed_count, dropped, some_empty, not_finite, three}
use Rattle.plane_moments.specs.Build.{bad_shapes, outputs, built}

-- 13: "a fixed count below 0". Neither zero is below 0, nor is a NaN; without a fixed set the count is 0
unfoldable pub negative : List Float → Bool
negative fixed = lt (fixed_count fixed) zero_f

-- "the total counts only sets that are kept": the frames' counts in order, and the fixed count unless that set is dropped
unfoldable pub kept_total : List Float → List Float → Float
kept_total frames fixed = cond (dropped fixed) (count_sum frames) (count_sum frames ⊕ fixed_count fixed)

-- 5: that total is below 3
unfoldable pub too_few_kept : List Float → List Float → Bool
too_few_kept frames fixed = lt (kept_total frames fixed) three

-- the build's tests with this total, and 13 "tested directly after 3"
unfoldable pub strict_refusal : ℕ → List Float → List Float → Float → List Float → List Float → ℕ
strict_refusal dof frames fixed sigma out_frames out_fixed =
    first_of
    (1 when ltb most_dof dof ∷
    2 when eqb (length frames) 0 ∷
    3 when bad_shapes frames fixed out_frames out_fixed ∷
    13 when negative fixed ∷ 4 when some_empty frames ∷
    5 when too_few_kept frames fixed ∷
    6 when not_finite frames fixed ∷
    7 when not (finite_positive sigma) ∷ [])

-- the call with the answer r: the four outputs before, and after
abbrev pub BuildsStrictly : ℕ → List Float → List Float → Float → List Float → List Float → Float → ℕ → ℕ → List Float → List Float → Float → ℕ → Type 0
BuildsStrictly dof frames fixed sigma out_frames out_fixed points dropped r outFrames' outFixed' points' dropped' =
    Answered (strict_refusal dof frames fixed sigma out_frames out_fixed) r
    (outputs out_frames out_fixed points dropped) (outputs outFrames' outFixed' points' dropped')
    (built frames fixed out_fixed)
