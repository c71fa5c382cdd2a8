-- The theorems at sets of 2^53 - 1, 2^53 and 1 points: their hypotheses can be met. Assumes nothing.
use Prim.Native.Nat.{ℕ, ◌+◌, ◌-◌, ◌^◌}
use mathlib.Core.Path.{◌≡◌, refl}
use mathlib.Core.List.{List}
use native.Mathlib.Omega.{arith}
use lib.IntN.{pos}
use lib.Ieee.{Float, binary64, of_int, round}
use lib.Ieee.Fits.{of_int-fits}
use Rattle.refusals.specs.Refusal.{first_of}
use Rattle.counts.specs.Whole.{float_of, Whole}
use Rattle.counts.specs.Saturation.{push_saturates, merge_saturates}
use Rattle.counts.proofs.Whole.{float_whole}
use Rattle.point_moments.specs.declared.PointMoments.{PointMoments}
use Rattle.point_moments.specs.Moments.{empty, with_point, merged, of_points}
use Rattle.point_moments.proofs.Counts.{count_of_points}
use Rattle.counted_moments.specs.Counted.{push_reasons, merge_reasons, pushes_reasons, push_refusal, merge_refusal}
use Rattle.counted_moments.proofs.Exact.{push_wrong, merge_exact}
use Rattle.counted_moments.proofs.Pushes.{pushes_accepted}

-- a set of n points at the origin
abbrev set : ℕ → PointMoments
set n = record { count = float_of (pos n); sum = empty.sum; outer = empty.outer }

-- one point merged into 2^53 - 1 makes 2^53
pub merged_full : Whole (merged (set (2 ^ 53 - 1)) (set 1)).count (pos (2 ^ 53))
unfolding merge_reasons merge_saturates of_int round
merged_full =
    merge_exact (set (2 ^ 53 - 1)) (set 1) (pos (2 ^ 53 - 1)) (pos 1) (float_whole (pos (2 ^ 53 - 1)) (omega arith)) (float_whole (pos 1) (omega arith)) tt refl

-- a merge with one point more is refused by 15
pub merge_refused_full : merge_refusal (set (2 ^ 53)) (set 1) ≡ 15
unfolding merge_reasons merge_saturates of_int round
merge_refused_full = refl

-- a push into 2^53 is refused by 15, and the count would not be 2^53 + 1
pub refused_full : (p : List Float) → push_refusal (set (2 ^ 53)) p ≡ 15
unfolding push_reasons push_saturates of_int round
refused_full p = refl

pub wrong_full : (p : List Float) → Whole (with_point (set (2 ^ 53)) p).count (pos (2 ^ 53 + 1)) → ⊥
wrong_full p = push_wrong (set (2 ^ 53)) p (2 ^ 53) (of_int-fits binary64 (pos (2 ^ 53))) (float_whole (pos (2 ^ 53)) (omega arith)) (refused_full p)

-- two points pushed from the empty set: the count is 2, and neither push is refused
pub two-points : (p : List Float) → (of_points 2 p).count ≡ float_of (pos 2)
two-points p = count_of_points 2 p (omega arith)

pub both_accepted : (p : List Float) → first_of (pushes_reasons 2 p) ≡ 0
both_accepted p = pushes_accepted 2 p (omega arith)
