-- Points on the grid in whole numbers: which they are, how large their sums get, and parts of a list. Assumes nothing.
use Prim.Native.Nat.{ℕ, zero, suc, ◌*◌, ◌/◌, ◌^◌, ◌≤◌, ◌<◌}
use mathlib.Core.Path.{◌≡◌, refl, sym, ap, ◌∙◌}
use mathlib.Core.List.{List, [], ◌∷◌, ◌++◌, map}
use native.Mathlib.Omega.{arith}
use native.Mathlib.Nat.{mul-one, mul_comm, le-mul_of_pos_right, mul-le-mul, mul-le-mul_left, mul-le-mul_right, mul-div_cancel, le_trans}
use lib.ListN.{length, length-append, length-map}
use lib.IntN.{ℤ, nat_abs}
use lib.Ieee.{Float, nan, inf, fin, up, down}
use lib.Ieee.Fits.{down_pos}
use Rattle.sums.specs.Sum.{◌⊗◌}
use Rattle.lists.specs.Part.{◌!◌}
use Rattle.call_lists.specs.Lists.{Every}
use Rattle.counts.specs.Whole.{float_of, Whole}
use Rattle.counts.proofs.Whole.{float_whole, whole_product}
use Rattle.exact_moments.specs.Grid.{Point, whole_of, OnGrid, PointOnGrid, Within, whole_point, coordinate, product, total}
use Rattle.exact_moments.proofs.Totals.{size_times, total_size}

-- ---- a float that is a whole number is that one
pub whole_of_lem : (x : Float) (z : ℤ) → Whole x z → whole_of x ≡ z
unfolding whole_of
whole_of_lem nan z (s, n, h, e) = absurd h
whole_of_lem (inf t) z (s, n, h, e) = absurd h
whole_of_lem (fin t m x) z (s, n, h, e) =
    let q : m * up x / down x ≡ n = ap (λ (k : ℕ). k / down x) (sym (mul-one (m * up x)) ∙ h.1) ∙ mul-div_cancel n (down_pos x) in
    rw (q, h.0, e)

pub on_grid : (r : ℕ) (x : Float) (z : ℤ) → Whole x z → nat_abs z ≤ r → OnGrid r x
on_grid r x z w h = rw (whole_of_lem x z w) (w, h)

pub float_on_grid : (r : ℕ) (z : ℤ) → nat_abs z ≤ r → nat_abs z ≤ 2 ^ 53 → OnGrid r (float_of z)
float_on_grid r z h k = on_grid r (float_of z) z (float_whole z k) h

-- ---- a point in whole numbers
pub coordinate_is : (p : Point) (k : ℕ) → k < 3 → coordinate k (whole_point p) ≡ whole_of (p ! k)
coordinate_is p zero h = refl
coordinate_is p (suc zero) h = refl
coordinate_is p (suc (suc zero)) h = refl
coordinate_is p (suc (suc (suc k))) h = absurd (omega arith)

-- ---- parts of a list
every-left : {A : Type 0} (P : A → Type 0) (l m : List A) → Every P (l ++ m) → Every P l
every-left P [] m h = tt
every-left P (p ∷ l) m h = (h.0, every-left P l m h.1)

pub every_right : {A : Type 0} (P : A → Type 0) (l m : List A) → Every P (l ++ m) → Every P m
every_right P [] m h = h
every_right P (p ∷ l) m h = every_right P l m h.1

module _ (n r : ℕ) (l m : List Point) (w : Within n r (l ++ m)) where
  pub within-left : Within n r l
  within-left = record { few = omega (arith, length-append l m, w.few); grid = every-left (PointOnGrid r) l m w.grid }

  pub within_right : Within n r m
  within_right = record { few = omega (arith, length-append l m, w.few); grid = every_right (PointOnGrid r) l m w.grid }

-- ---- n points of coordinates up to r in size, where n · r² is at most 2^53: how large the whole numbers get
module _ (n r : ℕ) (some : 0 < r) (fit : n * (r * r) ≤ 2 ^ 53) where
  one_fits : n * r ≤ 2 ^ 53
  one_fits = le_trans (mul-le-mul_left n (le-mul_of_pos_right r some)) fit

  pub count_fits : n ≤ 2 ^ 53
  count_fits = le_trans (le-mul_of_pos_right n some) one_fits

  sizes : (f : List ℤ → ℤ) (k : ℕ) → ((p : Point) → PointOnGrid r p → nat_abs (f (whole_point p)) ≤ k) → (l : List Point) → Every (PointOnGrid r) l → Every (λ q. nat_abs (f q) ≤ k) (map whole_point l)
  sizes f k h [] e = tt
  sizes f k h (p ∷ l) e = (h p e.0, sizes f k h l e.1)

  module _ (l : List Point) (w : Within n r l) where
    total_fits : (f : List ℤ → ℤ) (k : ℕ) → ((p : Point) → PointOnGrid r p → nat_abs (f (whole_point p)) ≤ k) → n * k ≤ 2 ^ 53 → nat_abs (total f (map whole_point l)) ≤ 2 ^ 53
    total_fits f k h b =
        let t = total_size f k (map whole_point l) (sizes f k h l w.grid) in
        let c : k * length (map whole_point l) ≤ n * k = rw (length-map l whole_point, mul_comm k (length l)) (mul-le-mul_right k w.few) in
        le_trans t (le_trans c b)

    pub sum_fits : (a : ℕ) → a < 3 → nat_abs (total (coordinate a) (map whole_point l)) ≤ 2 ^ 53
    sum_fits a h = total_fits (coordinate a) r (λ p g. rw (coordinate_is p a h) (g a h).1) one_fits

    pub product_fits : (a b : ℕ) → a < 3 → b < 3 → nat_abs (total (product a b) (map whole_point l)) ≤ 2 ^ 53
    product_fits a b h k = total_fits (product a b) (r * r) (λ p g. rw (coordinate_is p a h, coordinate_is p b k, size_times (whole_of (p ! a)) (whole_of (p ! b))) (mul-le-mul (g a h).1 (g b k).1)) fit

  -- a product of two coordinates, where there is a point at all
  pub product_whole : (p : Point) → PointOnGrid r p → 0 < n → (a b : ℕ) → a < 3 → b < 3 → Whole (p ! a ⊗ p ! b) (product a b (whole_point p))
  product_whole p g o a b h k =
      let s : r * r ≤ 2 ^ 53 = le_trans (rw (mul_comm n (r * r)) (le-mul_of_pos_right (r * r) o)) fit in
      rw (coordinate_is p a h, coordinate_is p b k)
      (whole_product (p ! a) (p ! b) (whole_of (p ! a)) (whole_of (p ! b)) (g a h).0 (g b k).0 (le_trans (mul-le-mul (g a h).1 (g b k).1) s))
