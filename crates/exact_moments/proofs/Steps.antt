-- The steps of the theorem: the empty set, a point more and two sets together are exact. Assumes nothing.
use Prim.Native.Nat.{ℕ, ◌*◌, ◌^◌, ◌≤◌, ◌<◌}
use mathlib.Core.Path.{◌≡◌, refl, sym, ap, ◌∙◌}
use mathlib.Core.List.{List, [], ◌∷◌, ◌++◌, map, map-append}
use native.Mathlib.Omega.{arith}
use lib.ListN.{length, length-append, length-map}
use lib.IntN.{ℤ, pos, nat_abs}
use lib.Ieee.{Float, of_int, round, of_bits, of_fields, odd}
use Rattle.sums.specs.Sum.{◌⊕◌, ◌⊗◌}
use Rattle.sums.specs.Laws.{tab-same, grid-same}
use Rattle.lists.specs.Part.{◌!◌}
use Rattle.counts.specs.Whole.{float_of, Whole}
use Rattle.counts.proofs.Whole.{float_and_whole, float_sum}
use Rattle.point_moments.specs.declared.PointMoments.{PointMoments}
use Rattle.point_moments.specs.Moments as Moments
use Rattle.point_moments.proofs.Counts.{one_is}
use Rattle.exact_moments.specs.Grid.{Point, PointOnGrid, Within, whole_point, coordinate, product, total, exact}
use Rattle.exact_moments.proofs.Totals.{total-append, total_more}
use Rattle.exact_moments.proofs.Grid.{coordinate_is, every_right, within-left, within_right, count_fits, sum_fits, product_fits, product_whole}

pub same_record : {m n : PointMoments} → m.count ≡ n.count → m.sum ≡ n.sum → m.outer ≡ n.outer → m ≡ n
same_record p q r = λ i. record { count = p i; sum = q i; outer = r i }

pub exact_none : Moments.empty ≡ exact []
unfolding exact total of_int round of_bits of_fields odd
exact_none = refl

-- ---- one number of the record: a point more, and two sets together
one_more : (f : List ℤ → ℤ) (l : List (List ℤ)) (q : List ℤ) (y : Float) → nat_abs (total f l) ≤ 2 ^ 53 → Whole y (f q) → float_of (total f l) ⊕ y ≡ float_of (total f (l ++ (q ∷ [])))
one_more f l q y h w = float_and_whole (total f l) (f q) y h w ∙ ap float_of (sym (total_more f l q))

together : (f : List ℤ → ℤ) (l m : List (List ℤ)) → nat_abs (total f l) ≤ 2 ^ 53 → nat_abs (total f m) ≤ 2 ^ 53 → float_of (total f l) ⊕ float_of (total f m) ≡ float_of (total f (l ++ m))
together f l m h k = float_sum (total f l) (total f m) h k ∙ ap float_of (sym (total-append f l m))

-- ---- all thirteen
module _ (n r : ℕ) (some : 0 < r) (fit : n * (r * r) ≤ 2 ^ 53) where
  pub exact_more : (l : List Point) (p : Point) → Within n r (l ++ (p ∷ [])) → Moments.with_point (exact (map whole_point l)) p ≡ exact (map whole_point (l ++ (p ∷ [])))
  unfolding Moments.with_point exact
  exact_more l p w =
      let g : PointOnGrid r p = (every_right (PointOnGrid r) l (p ∷ []) w.grid).0 in
      let v = within-left n r l (p ∷ []) w in
      let e = length-append l (p ∷ []) in
      let c = count_fits n r some fit in
      let q = map whole_point l in
      rw (map-append whole_point l (p ∷ []))
      (same_record
      (rw (one_is, length-append q (whole_point p ∷ [])) (float_sum (pos (length q)) (pos 1) (rw (length-map l whole_point) (omega (arith, v.few))) (omega arith)))
      (tab-same 3 (λ a. float_of (total (coordinate a) q) ⊕ p ! a) (λ a. float_of (total (coordinate a) (q ++ (whole_point p ∷ []))))
      (λ a h. one_more (coordinate a) q (whole_point p) (p ! a) (sum_fits n r some fit l v a h) (rw (coordinate_is p a h) (g a h).0)))
      (grid-same 3 3 (λ a b. float_of (total (product a b) q) ⊕ p ! a ⊗ p ! b) (λ a b. float_of (total (product a b) (q ++ (whole_point p ∷ []))))
      (λ a b h k. one_more (product a b) q (whole_point p) (p ! a ⊗ p ! b) (product_fits n r some fit l v a b h k) (product_whole n r some fit p g (omega (arith, w.few)) a b h k))))

  pub exact-merged : (l m : List Point) → Within n r (l ++ m) → Moments.merged (exact (map whole_point l)) (exact (map whole_point m)) ≡ exact (map whole_point (l ++ m))
  unfolding Moments.merged exact
  exact-merged l m w =
      let v = within-left n r l m w in
      let u = within_right n r l m w in
      let c = count_fits n r some fit in
      let q = map whole_point l in
      let s = map whole_point m in
      rw (map-append whole_point l m)
      (same_record
      (rw (length-append q s) (float_sum (pos (length q)) (pos (length s)) (rw (length-map l whole_point) (omega (arith, v.few))) (rw (length-map m whole_point) (omega (arith, u.few)))))
      (tab-same 3 (λ a. float_of (total (coordinate a) q) ⊕ float_of (total (coordinate a) s)) (λ a. float_of (total (coordinate a) (q ++ s)))
      (λ a h. together (coordinate a) q s (sum_fits n r some fit l v a h) (sum_fits n r some fit m u a h)))
      (grid-same 3 3 (λ a b. float_of (total (product a b) q) ⊕ float_of (total (product a b) s)) (λ a b. float_of (total (product a b) (q ++ s)))
      (λ a b h k. together (product a b) q s (product_fits n r some fit l v a b h k) (product_fits n r some fit m u a b h k))))
