-- Two technicians and the same floor of three points, with a coordinate -0 and sums that are 0: their plans are within the bounds, and the thirteen numbers of both are those that paper
-- gives. Assumes nothing.
use Prim.Native.Nat.{zero, suc, ◌≤◌}
use mathlib.Core.Path.{◌≡◌, refl}
use mathlib.Core.Bool.{true}
use mathlib.Core.List.Permᴰ
use mathlib.Core.List.{List, [], ◌∷◌, map}
use native.Mathlib.Omega.{arith}
use lib.ListN.{replicate}
use lib.IntN.{ℤ, pos, negsuc, neg_ℤ, nat_abs}
use lib.Ieee.{Float, binary64, of_bits, of_fields, odd, to_bits, add, mul, of_int, round}
use Rattle.lists.specs.Part.{◌!◌}
use Rattle.refusals.specs.Refusal.{kept}
use Rattle.counts.specs.Whole.{float_of}
use Rattle.point_moments.specs.Moments as Moments
use Rattle.moment_lists.specs.Calls.{gather_refusal, gathered, push_refusal, pushed, merge_refusal, joined}
use Rattle.exact_moments.specs.Grid.{Point, whole_of, OnGrid, PointOnGrid, Within, POINTS, REACH}
use Rattle.exact_moments.specs.Plan.{Plan, empty, push, merge, points, wholes, moments}
use Rattle.exact_moments.specs.Slices as Slices
use Rattle.exact_moments.specs.Slices.{Calls, Made}
use Rattle.exact_moments.proofs.Grid.{on_grid, float_on_grid}
use Rattle.exact_moments.proofs.MomentsExact.{same-wholes}

-- -0 is the whole number 0
abbrev minus_zero : Float
minus_zero = of_bits binary64 0x8000_0000_0000_0000

minus-zero : OnGrid REACH minus_zero
unfolding of_bits of_fields odd
minus-zero = on_grid REACH minus_zero (pos 0) (true, 0, (refl, refl), refl) (omega arith)

-- a point of three whole numbers
abbrev point : ℤ → ℤ → ℤ → Point
point x y z = float_of x ∷ float_of y ∷ float_of z ∷ []

three : (p : Point) → OnGrid REACH (p ! 0) → OnGrid REACH (p ! 1) → OnGrid REACH (p ! 2) → PointOnGrid REACH p
three p x y z zero h = x
three p x y z (suc zero) h = y
three p x y z (suc (suc zero)) h = z
three p x y z (suc (suc (suc k))) h = absurd (omega arith)

is_on : (z : ℤ) → nat_abs z ≤ REACH → OnGrid REACH (float_of z)
is_on z h = float_on_grid REACH z h (omega arith)

-- (1, 2, -0), and the same with +0; (-1, 30,000, -30,000); (0, -30,000, 7)
abbrev first : Point
first = float_of (pos 1) ∷ float_of (pos 2) ∷ minus_zero ∷ []

abbrev first_again : Point
first_again = point (pos 1) (pos 2) (pos 0)

abbrev second : Point
second = point (negsuc 0) (pos 30000) (neg_ℤ (pos 30000))

abbrev third : Point
third = point (pos 0) (neg_ℤ (pos 30000)) (pos 7)

first_on : PointOnGrid REACH first
first_on = three first (is_on (pos 1) (omega arith)) (is_on (pos 2) (omega arith)) minus-zero

first_again_on : PointOnGrid REACH first_again
first_again_on = three first_again (is_on (pos 1) (omega arith)) (is_on (pos 2) (omega arith)) (is_on (pos 0) (omega arith))

second_on : PointOnGrid REACH second
second_on = three second (is_on (negsuc 0) (omega arith)) (is_on (pos 30000) (omega arith)) (is_on (neg_ℤ (pos 30000)) (omega arith))

third_on : PointOnGrid REACH third
third_on = three third (is_on (pos 0) (omega arith)) (is_on (neg_ℤ (pos 30000)) (omega arith)) (is_on (pos 7) (omega arith))

-- one technician merges a scan of one point with a scan of two, the other pushes the points from the last to the first
abbrev pub one_way : Plan
one_way = merge (push empty first) (push (push empty second) third)

abbrev pub other_way : Plan
other_way = push (push (push empty third) second) first_again

pub one-within : Within POINTS REACH (points one_way)
unfolding points
one-within = record { few = omega arith; grid = (first_on, (second_on, (third_on, tt))) }

pub other_within : Within POINTS REACH (points other_way)
unfolding points
other_within = record { few = omega arith; grid = (third_on, (second_on, (first_again_on, tt))) }

-- by the theorem
pub same_floor : moments one_way ≡ moments other_way
unfolding points whole_of of_int round of_bits of_fields odd
same_floor = same-wholes one_way other_way one-within other_within (Permᴰ.symm (Permᴰ.reverse (wholes one_way)))

-- by computation: count 3; sums 0, 2, -29,993; products by columns, of which 1·(-0) + (-1)·(-30,000) + 0·7 is 30,000
abbrev pub on_paper : List Float
on_paper =
    map float_of (
    pos 3 ∷
    pos 0 ∷ pos 2 ∷ neg_ℤ (pos 29993) ∷
    pos 2 ∷ neg_ℤ (pos 29998) ∷ pos 30000 ∷
    neg_ℤ (pos 29998) ∷ pos 1800000004 ∷ neg_ℤ (pos 900210000) ∷
    pos 30000 ∷ neg_ℤ (pos 900210000) ∷ pos 900000049 ∷ []
    )

pub one_way_lem : Moments.moments_list (moments one_way) ≡ on_paper
unfolding moments Moments.with_point Moments.merged add mul of_int round of_bits of_fields odd
one_way_lem = refl

pub other_way_lem : Moments.moments_list (moments other_way) ≡ on_paper
unfolding moments Moments.with_point Moments.merged add mul of_int round of_bits of_fields odd
other_way_lem = refl

-- a set of one point whose coordinates are all -0: count 1, and twelve times +0
pub only_minus-zero : map (to_bits binary64) (Moments.moments_list (moments (push empty (minus_zero ∷ minus_zero ∷ minus_zero ∷ [])))) ≡ 0x3ff0_0000_0000_0000 ∷ replicate 12 0
unfolding moments Moments.with_point add mul to_bits of_bits of_fields odd
only_minus-zero = refl

-- ---- what is said of slices is said of something: for any calls there is a slice that they leave by their contracts
pub made : (c : Calls) → (m : List Float) × Made c m
made Slices.zeros = (Moments.moments_list Moments.empty, refl)
made (Slices.gather l) =
    let old = Moments.moments_list Moments.empty in
    let k = gather_refusal l old in
    (kept k old (gathered l), (old, k, refl, record { number_is = refl; left_is = refl }))
made (Slices.push c p) =
    let b = made c in
    let k = push_refusal b.0 p in
    (kept k b.0 (pushed b.0 p), (b.0, k, b.1, record { number_is = refl; left_is = refl }))
made (Slices.merge c d) =
    let b = made c in
    let o = made d in
    let k = merge_refusal b.0 o.0 in
    (kept k b.0 (joined b.0 o.0), (b.0, o.0, k, b.1, o.1, record { number_is = refl; left_is = refl }))
