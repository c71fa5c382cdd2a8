-- What the bounds are for: n points of coordinates up to r in size are exact where n · r² is at most 2^53. With a million points that is so up to 94,906, and up to 30,000 for
-- 10,007,999 points; one further in either there are points whose sum of squares is not their whole number. Assumes nothing.
use Prim.Native.Nat.{ℕ, zero, suc, ◌+◌, ◌*◌, ◌^◌, ◌≤◌, ◌<◌}
use mathlib.Core.Path.{◌≡◌, refl, sym, ap, ◌∙◌}
use mathlib.Core.Bool.{false}
use mathlib.Core.List.{[], ◌∷◌, map-append, append_assoc}
use native.Mathlib.Omega.{arith}
use native.Mathlib.Nat.{zero-mul, suc-mul}
use lib.ListN.{length, length-append}
use lib.IntN.{pos, ◌+ℤ◌}
use lib.Ieee.{of_int, round, add, mul, of_bits, of_fields, odd}
use Rattle.sums.specs.Sum.{◌⊕◌, ◌⊗◌, at}
use Rattle.call_lists.specs.Lists.{Every}
use Rattle.call_lists.specs.ListLaws.{every_append}
use Rattle.counts.specs.Whole.{float_of, Whole}
use Rattle.counts.proofs.Whole.{float_whole}
use Rattle.point_moments.specs.Moments as Moments
use Rattle.exact_moments.specs.Grid.{Point, PointOnGrid, Within, whole_point, product, total, exact}
use Rattle.exact_moments.specs.Plan.{Plan, empty, push, merge, points, wholes, moments}
use Rattle.exact_moments.proofs.Totals.{total_more}
use Rattle.exact_moments.proofs.Grid.{whole_of_lem, float_on_grid}
use Rattle.exact_moments.proofs.MomentsExact.{exact-within}

-- ---- up to where all is exact
pub a_million_points : (a : Plan) → Within 1000000 94906 (points a) → moments a ≡ exact (wholes a)
a_million_points a w = exact-within 1000000 94906 (omega arith) (omega arith) a w

pub reach_of_30000 : (a : Plan) → Within 10007999 30000 (points a) → moments a ≡ exact (wholes a)
reach_of_30000 a w = exact-within 10007999 30000 (omega arith) (omega arith) a w

-- ---- n points at x on the first axis
abbrev pub along : ℕ → Point
along x = float_of (pos x) ∷ float_of (pos 0) ∷ float_of (pos 0) ∷ []

unfoldable pub repeated : ℕ → Point → Plan
repeated zero p = empty
repeated (suc n) p = push (repeated n p) p

module _ (x : ℕ) (small : x ≤ 2 ^ 53) where
  along-grid : (r : ℕ) → x ≤ r → PointOnGrid r (along x)
  along-grid r h zero o = float_on_grid r (pos x) h small
  along-grid r h (suc zero) o = float_on_grid r (pos 0) (omega arith) (omega arith)
  along-grid r h (suc (suc zero)) o = float_on_grid r (pos 0) (omega arith) (omega arith)
  along-grid r h (suc (suc (suc k))) o = absurd (omega arith)

  along-square : product 0 0 (whole_point (along x)) ≡ pos (x * x)
  along-square = rw (whole_of_lem (float_of (pos x)) (pos x) (float_whole (pos x) small))

repeated_count : (n : ℕ) (p : Point) → length (points (repeated n p)) ≡ n
unfolding repeated points
repeated_count zero p = refl
repeated_count (suc n) p = omega (arith, length-append (points (repeated n p)) (p ∷ []), repeated_count n p)

repeated-grid : (n r : ℕ) (p : Point) → PointOnGrid r p → Every (PointOnGrid r) (points (repeated n p))
unfolding repeated points
repeated-grid zero r p g = tt
repeated-grid (suc n) r p g = every_append (PointOnGrid r) (points (repeated n p)) (p ∷ []) (repeated-grid n r p g) (g, tt)

-- Σ x² of a plan with one point more
square_more : (a : Plan) (y : ℕ) → y ≤ 2 ^ 53 → total (product 0 0) (wholes (push a (along y))) ≡ total (product 0 0) (wholes a) +ℤ pos (y * y)
unfolding points
square_more a y h = rw (map-append whole_point (points a) (along y ∷ []), total_more (product 0 0) (wholes a) (whole_point (along y)), along-square y h)

repeated-square : (n x : ℕ) → x ≤ 2 ^ 53 → total (product 0 0) (wholes (repeated n (along x))) ≡ pos (n * (x * x))
unfolding repeated points total
repeated-square zero x h = ap pos (sym (zero-mul (x * x)))
repeated-square (suc n) x h = square_more (repeated n (along x)) x h ∙ rw (repeated-square n x h, suc-mul n (x * x))

-- ---- n points at x and one at y: Σ x² is exact up to the last point
abbrev pub line : ℕ → ℕ → ℕ → Plan
line n x y = push (repeated n (along x)) (along y)

line-within : (n x y : ℕ) → x ≤ 2 ^ 53 → y ≤ x → Within (suc n) x (points (line n x y))
unfolding points
line-within n x y h k =
    record {
      few = omega (arith, length-append (points (repeated n (along x))) (along y ∷ []), repeated_count n (along x));
      grid = every_append (PointOnGrid x) (points (repeated n (along x))) (along y ∷ []) (repeated-grid n x (along x) (along-grid x h x (omega arith))) (along-grid y (omega arith) x k, tt);
    }

line-square : (n x y : ℕ) → x ≤ 2 ^ 53 → y ≤ 2 ^ 53 → total (product 0 0) (wholes (line n x y)) ≡ pos (n * (x * x) + y * y)
line-square n x y h k = square_more (repeated n (along x)) y k ∙ rw (repeated-square n x h)

repeated-moments : (n x : ℕ) → 0 < x → x ≤ 2 ^ 53 → n * (x * x) ≤ 2 ^ 53 → at 3 (moments (repeated n (along x))).outer 0 0 ≡ float_of (pos (n * (x * x)))
unfolding exact
repeated-moments n x s h fit =
    let w : Within n x (points (repeated n (along x))) = record { few = omega (arith, repeated_count n (along x)); grid = repeated-grid n x (along x) (along-grid x h x (omega arith)) } in
    rw (exact-within n x s fit (repeated n (along x)) w, repeated-square n x h)

line-moments : (n x y : ℕ) → 0 < x → x ≤ 2 ^ 53 → n * (x * x) ≤ 2 ^ 53 → at 3 (moments (line n x y)).outer 0 0 ≡ float_of (pos (n * (x * x))) ⊕ float_of (pos y) ⊗ float_of (pos y)
unfolding moments Moments.with_point
line-moments n x y s h fit = rw (repeated-moments n x s h fit)

-- ---- just beyond: the sum of squares is odd and above 2^53, so that it is not what the record holds

-- the whole number that Σ x² is, and the one that the record holds
pub record Differ (a : Plan) (is holds : ℕ) : Type 0 where
  pub total_is : total (product 0 0) (wholes a) ≡ pos is
  pub record_holds : Whole (at 3 (moments a).outer 0 0) (pos holds)

line_differs : (n x y holds : ℕ) → 0 < x → x ≤ 2 ^ 53 → y ≤ 2 ^ 53 → n * (x * x) ≤ 2 ^ 53 → Whole (float_of (pos (n * (x * x))) ⊕ float_of (pos y) ⊗ float_of (pos y)) (pos holds) → Differ (line n x y) (n * (x * x) + y * y) holds
line_differs n x y holds s h k fit w = record { total_is = line-square n x y h k; record_holds = rw (line-moments n x y s h fit) w }

-- 999,985 points at 94,907
abbrev pub beyond_reach : Plan
beyond_reach = line 999984 94907 94907

pub beyond_reach_within : Within 999985 94907 (points beyond_reach)
beyond_reach_within = line-within 999984 94907 94907 (omega arith) (omega arith)

pub beyond_reach_lem : Differ beyond_reach 9007203538920265 9007203538920264
unfolding of_int round add mul
beyond_reach_lem = line_differs 999984 94907 94907 9007203538920264 (omega arith) (omega arith) (omega arith) (omega arith) (false, 9007203538920264, (refl, refl), refl)

-- 10,007,999 points at 30,000 and one more at 29,999
abbrev pub beyond_points : Plan
beyond_points = line 10007999 30000 29999

pub beyond-points-within : Within 10008000 30000 (points beyond_points)
beyond-points-within = line-within 10007999 30000 29999 (omega arith) (omega arith)

pub beyond-points : Differ beyond_points 9007199999940001 9007199999940000
unfolding of_int round add mul
beyond-points = line_differs 10007999 30000 29999 9007199999940000 (omega arith) (omega arith) (omega arith) (omega arith) (false, 9007199999940000, (refl, refl), refl)

-- ---- and two cuts of the same 999,986 points at 94,907 have different records: the last two pushed one after the other, or merged as a set
abbrev pub one_pushed : Plan
one_pushed = push beyond_reach (along 94907)

abbrev pub two_merged : Plan
two_merged = merge (repeated 999984 (along 94907)) (push (push empty (along 94907)) (along 94907))

pub same-points_cut : points one_pushed ≡ points two_merged
unfolding points
same-points_cut = append_assoc (points (repeated 999984 (along 94907))) (along 94907 ∷ []) (along 94907 ∷ [])

pub one-pushed : Whole (at 3 (moments one_pushed).outer 0 0) (pos 9007212546258912)
unfolding moments Moments.with_point of_int round add mul
one-pushed = rw (repeated-moments 999984 94907 (omega arith) (omega arith) (omega arith)) (false, 9007212546258912, (refl, refl), refl)

pub two-merged : Whole (at 3 (moments two_merged).outer 0 0) (pos 9007212546258914)
unfolding moments Moments.with_point Moments.merged of_int round add mul of_bits of_fields odd
two-merged = rw (repeated-moments 999984 94907 (omega arith) (omega arith) (omega arith)) (false, 9007212546258914, (refl, refl), refl)
