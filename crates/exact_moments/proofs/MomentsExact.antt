-- Exact moments on a grid: however points are cut into sets and the sets are merged from the empty one, the moments are the floats of the whole-number count, sums and products.
-- So two plans of the same points have the same moments, and nothing is refused on the way. Assumes nothing.
use Prim.Native.Nat.{ℕ, ◌*◌, ◌^◌, ◌≤◌, ◌<◌}
use mathlib.Core.Path.{◌≡◌, refl, sym, ap, ◌∙◌}
use mathlib.Core.List.Permᴰ
use mathlib.Core.List.{List, [], ◌∷◌, map, Permᴰ}
use native.Mathlib.Omega.{arith}
use lib.ListN.{length, length-append, length-map}
use lib.IntN.{ℤ, pos}
use lib.Ieee.{of_int, round, of_bits, of_fields, odd}
use Rattle.sums.specs.Laws.{tab-same, grid-same, get_or-tab, at-grid}
use Rattle.call_lists.specs.ListLaws.{every_perm}
use Rattle.counts.specs.Whole.{float_of, Whole}
use Rattle.counts.specs.Saturation.{MOST}
use Rattle.counts.proofs.Whole.{float_whole, float_sum}
use Rattle.point_moments.specs.Moments as Moments
use Rattle.point_moments.proofs.Counts.{one_is}
use Rattle.counted_moments.proofs.Exact.{push_accepted, merge_accepted}
use Rattle.exact_moments.specs.Grid.{Point, PointOnGrid, Within, POINTS, REACH, whole_point, coordinate, product, total, exact, Exactly}
use Rattle.exact_moments.specs.Plan.{Plan, empty, push, merge, points, wholes, moments, Accepted}
use Rattle.exact_moments.proofs.Totals.{total_order_lem, length_order}
use Rattle.exact_moments.proofs.Grid.{within-left, within_right, count_fits, sum_fits, product_fits}
use Rattle.exact_moments.proofs.Steps.{same_record, exact_none, exact_more, exact-merged}

-- ---- n points of coordinates up to r in size: n · r² is at most 2^53
pub exact-within : (n r : ℕ) → 0 < r → n * (r * r) ≤ 2 ^ 53 → (a : Plan) → Within n r (points a) → moments a ≡ exact (wholes a)
unfolding moments points
exact-within n r some fit empty w = exact_none
exact-within n r some fit (push a p) w =
    rw (exact-within n r some fit a (within-left n r (points a) (p ∷ []) w)) (exact_more n r some fit (points a) p w)
exact-within n r some fit (merge a b) w =
    rw (exact-within n r some fit a (within-left n r (points a) (points b) w), exact-within n r some fit b (within_right n r (points a) (points b) w)) (exact-merged n r some fit (points a) (points b) w)

-- document 02: at most 1,000,000 points, and coordinates of size at most 30,000
pub moments-exact : (a : Plan) → Within POINTS REACH (points a) → moments a ≡ exact (wholes a)
moments-exact a w = exact-within POINTS REACH (omega arith) (omega arith) a w

-- and each number is its whole number, so that nothing was rounded
exactly : (n r : ℕ) → 0 < r → n * (r * r) ≤ 2 ^ 53 → (l : List Point) → Within n r l → Exactly (exact (map whole_point l)) (map whole_point l)
unfolding exact
exactly n r some fit l w =
    let q = map whole_point l in
    record {
      count = float_whole (pos (length q)) (rw (length-map l whole_point) (omega (arith, w.few, count_fits n r some fit)));
      sum = λ a h. rw (get_or-tab 3 (λ a. float_of (total (coordinate a) q)) a h) (float_whole (total (coordinate a) q) (sum_fits n r some fit l w a h));
      outer = λ a b h k. rw (at-grid 3 3 (λ a b. float_of (total (product a b) q)) a b h k) (float_whole (total (product a b) q) (product_fits n r some fit l w a b h k));
    }

pub moments_exactly : (a : Plan) → Within POINTS REACH (points a) → Exactly (moments a) (wholes a)
moments_exactly a w = rw (moments-exact a w) (exactly POINTS REACH (omega arith) (omega arith) (points a) w)

-- ---- nothing is refused: the count alone decides, so this holds of any points up to 2^53
pub count_exact : (a : Plan) → length (points a) ≤ MOST → (moments a).count ≡ float_of (pos (length (points a)))
unfolding moments points Moments.with_point Moments.merged of_int round of_bits of_fields odd
count_exact empty h = refl
count_exact (push a p) h =
    let e = length-append (points a) (p ∷ []) in
    rw (count_exact a (omega arith), one_is, e) (float_sum (pos (length (points a))) (pos 1) (omega arith) (omega arith))
count_exact (merge a b) h =
    let e = length-append (points a) (points b) in
    rw (count_exact a (omega arith), count_exact b (omega arith), e) (float_sum (pos (length (points a))) (pos (length (points b))) (omega arith) (omega arith))

whole_count : (a : Plan) → length (points a) ≤ MOST → Whole (moments a).count (pos (length (points a)))
whole_count a h = rw (count_exact a h) (float_whole (pos (length (points a))) h)

pub none-refused-up-to : (a : Plan) → length (points a) ≤ MOST → Accepted a
unfolding points Accepted
none-refused-up-to empty h = tt
none-refused-up-to (push a p) h =
    let e = length-append (points a) (p ∷ []) in
    (none-refused-up-to a (omega arith), push_accepted (moments a) p (length (points a)) (whole_count a (omega arith)) (omega arith))
none-refused-up-to (merge a b) h =
    let e = length-append (points a) (points b) in
    (none-refused-up-to a (omega arith), none-refused-up-to b (omega arith), merge_accepted (moments a) (moments b) (length (points a)) (length (points b)) (whole_count a (omega arith)) (whole_count b (omega arith)) (omega arith))

pub none-refused : (a : Plan) → Within POINTS REACH (points a) → Accepted a
none-refused a w = none-refused-up-to a (omega (arith, w.few))

-- ---- two plans of the same whole numbers, in any order and cut; the zero of a coordinate may have either sign
exact_order : {l m : List (List ℤ)} → Permᴰ l m → exact l ≡ exact m
unfolding exact
exact_order {l} {m} d =
    same_record (ap (λ (k : ℕ). float_of (pos k)) (length_order d))
    (tab-same 3 (λ r. float_of (total (coordinate r) l)) (λ r. float_of (total (coordinate r) m)) (λ r h. ap float_of (total_order_lem (coordinate r) d)))
    (grid-same 3 3 (λ r c. float_of (total (product r c) l)) (λ r c. float_of (total (product r c) m)) (λ r c h k. ap float_of (total_order_lem (product r c) d)))

pub same-wholes : (a b : Plan) → Within POINTS REACH (points a) → Within POINTS REACH (points b) → Permᴰ (wholes a) (wholes b) → moments a ≡ moments b
same-wholes a b w v d = moments-exact a w ∙ exact_order d ∙ sym (moments-exact b v)

-- two plans of the same points
pub same_points : (a b : Plan) → Within POINTS REACH (points a) → Permᴰ (points a) (points b) → moments a ≡ moments b
same_points a b w d =
    let v : Within POINTS REACH (points b) = record { few = omega (arith, w.few, length_order d); grid = every_perm (PointOnGrid REACH) d w.grid } in
    same-wholes a b w v (Permᴰ.map whole_point d)
