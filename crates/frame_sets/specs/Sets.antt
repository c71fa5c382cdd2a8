-- The moments that a frame factor is built from: one set a frame, and a fixed set or none. Definitions only.
-- frames: sets of MOMENTS numbers one after the other. fixed: nothing, or one set in site coordinates.
use Rattle.std.specs.Prelude.{ℕ, ◌/◌, Bool, false, not, ◌||◌, cond, List, [], ◌∷◌, length, Float}
use Rattle.std.specs.Float.{binary64}
use Rattle.std.specs.Float.Ieee.{of_bits, le, lt}
use Rattle.refusals.specs.Refusal.{Reason, ◌when◌}
use Rattle.sums.specs.Sum.{◌⊕◌, zero_f, sum_from_zero, grid}
use Rattle.lists.specs.Part.{◌!◌}
use Rattle.validate.specs.Finite.{all_finite}
use Rattle.normal_blocks.specs.Somewhere.{somewhere}
use Rattle.point_moments.specs.Moments.{MOMENTS, moments_of}
use Rattle.point_moments.specs.Scatter.{CENTRED, centred, centred_list}
use Rattle.point_moments.specs.declared.PointMoments.{PointMoments}
use Rattle.plane_fit.specs.Records.{record_of}

-- how many sets a list is, and set k
abbrev pub set_count : List Float → ℕ
set_count sets = length sets / MOMENTS

abbrev pub set_at : List Float → ℕ → PointMoments
set_at sets k = moments_of (record_of MOMENTS sets k)

unfoldable pub count_at : List Float → ℕ → Float
count_at frames k = (set_at frames k).count

-- "An empty fixed slice means no fixed set, count 0"
unfoldable pub fixed_count : List Float → Float
fixed_count [] = zero_f
fixed_count (x ∷ l) = (moments_of (x ∷ l)).count

-- "A fixed set of count at or below 0 is dropped after its count has gone into test 5"
unfoldable pub dropped : List Float → Bool
dropped [] = false
dropped (x ∷ l) = le (moments_of (x ∷ l)).count zero_f

-- ---- the tests

-- 4: "Some frame's count is at or below 0". A NaN count is not
unfoldable pub empty_at : List Float → ℕ → Bool
empty_at frames k = le (count_at frames k) zero_f

unfoldable pub some_empty : List Float → Bool
some_empty frames = somewhere (set_count frames) (empty_at frames)

-- The frames' counts summed in order, from +0 on as in the fit's total. After test 4 no sum can tell the start: it could only with a first count of -0.
unfoldable pub count_sum : List Float → Float
count_sum frames = sum_from_zero (set_count frames) (count_at frames)

-- 3, by its bits
abbrev pub three : Float
three = of_bits binary64 0x4008_0000_0000_0000

-- 5: "The frames' counts summed in order, plus the fixed count, are below 3". A NaN total is not
unfoldable pub too_few : List Float → List Float → Bool
too_few frames fixed = lt (count_sum frames ⊕ fixed_count fixed) three

-- 4 and 5, which look at counts alone
abbrev pub count_reasons : List Float → List Float → List Reason
count_reasons frames fixed = 4 when some_empty frames ∷ 5 when too_few frames fixed ∷ []

-- 6: "A moment of a frame or the fixed set ... is not finite", whether the fixed set will be dropped or not
unfoldable pub not_finite : List Float → List Float → Bool
not_finite frames fixed = not (all_finite frames) || not (all_finite fixed)

-- ---- the sets centred

-- one set centred on its mean, which it has: frames by test 4, and a fixed set that is not dropped
abbrev pub centred_set : List Float → List Float
centred_set set = centred_list (centred (moments_of set))

-- number r of frame k centred
unfoldable pub centred_number : List Float → ℕ → ℕ → Float
centred_number frames r k = centred_set (record_of MOMENTS frames k) ! r

unfoldable pub centred_frames : List Float → List Float
centred_frames frames = grid CENTRED (set_count frames) (centred_number frames)

-- what the slice meant for the fixed set holds: the set centred, or its own bits where there is none or it is dropped
unfoldable pub centred_fixed : List Float → List Float → List Float
centred_fixed [] old = old
centred_fixed (x ∷ l) old = cond (dropped (x ∷ l)) old (centred_set (x ∷ l))

-- the point total: the counts of the frames in order, plus the fixed count where the set is kept, plus +0 where it is not
unfoldable pub points : List Float → List Float → Float
points frames fixed = count_sum frames ⊕ cond (dropped fixed) zero_f (fixed_count fixed)
