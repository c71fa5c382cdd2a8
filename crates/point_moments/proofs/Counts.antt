-- The count of a set that was pushed point by point from the empty one is the float of how many there are, up to 2^53. Assumes nothing.
use Prim.Native.Nat.{ℕ, zero, suc, ◌≤◌}
use mathlib.Core.Path.{◌≡◌, refl}
use mathlib.Core.List.{List}
use native.Mathlib.Omega.{arith}
use native.Mathlib.Numerals.{add-one}
use lib.IntN.{pos}
use lib.Ieee.{Float, of_int, round, of_bits, of_fields, odd}
use Rattle.counts.specs.Whole.{float_of}
use Rattle.counts.specs.Saturation.{MOST}
use Rattle.counts.proofs.Whole.{float_plus}
use Rattle.point_moments.specs.Moments.{one, with_point, of_points}

-- 1 as a push adds it
pub one_is : one ≡ float_of (pos 1)
unfolding of_int round of_bits of_fields odd
one_is = refl

pub count_of_points : (n : ℕ) (p : List Float) → n ≤ MOST → (of_points n p).count ≡ float_of (pos n)
unfolding of_points with_point of_int round of_bits of_fields odd
count_of_points zero p h = refl
count_of_points (suc n) p h = rw (count_of_points n p (omega arith), one_is, float_plus n 1 (omega arith) (omega arith), add-one n)
