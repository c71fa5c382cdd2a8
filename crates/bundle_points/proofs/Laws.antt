-- The number of points, sums over the site points that go on over the fixed ones, and the symmetry of the scatter. Assumes nothing.
use Prim.Native.Nat.{ℕ, ◌+◌, ◌*◌, ◌/◌, ◌≤◌, ◌<◌}
use mathlib.Core.Path.{◌≡◌, sym, ap, ◌∙◌}
use mathlib.Core.Bool.{false}
use mathlib.Core.List.{List, [], ◌∷◌, ◌++◌}
use native.Mathlib.Nat.{mul-div_cancel}
use native.Mathlib.Omega.{arith}
use lib.ListN.{length, get_or, length-append, get_or-append}
use lib.Seq.{get_or-append-add}
use lib.Ieee.{Float, nan, binary64, div, of_int}
use lib.Ieee.Exact.{HasValue}
use lib.Ieee.Back.{round_whole}
use Rattle.sums.specs.Sum.{zero_f, sum_from, sum_from_zero, tab, divided}
use Rattle.sums.specs.Laws.{sum_from-same, sum_from_parts, ⊗_comm, off-add}
use Rattle.lists.specs.Part.{◌!◌}
use Rattle.bundle_points.specs.Points.{most_points, point_count, coordinate, number_of, coordinate_sum, centroid, difference, spread, scatter}
use Rattle.bundle_points.specs.Steps.{Whole, add_points, add_spread}

-- N is exact as an f64
pub number_exact : (n : ℕ) → n ≤ most_points → HasValue (number_of n) false n 1
unfolding of_int
number_exact n h = round_whole binary64 false n (omega arith)

-- the scatter is symmetric: the two factors of a product may be swapped
spread_swap : (all q : List Float) (n r c : ℕ) → sum_from_zero n (spread all q r c) ≡ sum_from_zero n (spread all q c r)
spread_swap all q n r c = sum_from-same zero_f n _ _ (λ k h. unfold spread in ⊗_comm (difference all q r k) (difference all q c k))

module _ (p f : List Float) (whole : Whole p) (fixed_whole : Whole f) where
  pub both_count : point_count (p ++ f) ≡ point_count p + point_count f
  both_count =
      let e : length (p ++ f) ≡ (point_count p + point_count f) * 3 = length-append p f ∙ omega arith in
      ap (λ (n : ℕ). n / 3) e ∙ mul-div_cancel (point_count p + point_count f) (omega arith)

  pub both_whole : Whole (p ++ f)
  both_whole = rw both_count (length-append p f ∙ omega arith)

  -- a site point's row, and a fixed one's
  pub site_row : (r k : ℕ) → r < 3 → k < point_count p → coordinate (p ++ f) r k ≡ coordinate p r k
  unfolding coordinate
  site_row r k h l = rw off-add (get_or-append p f nan (k * 3 + r) (omega arith))

  pub fixed_row_lem : (r k : ℕ) → r < 3 → k < point_count f → coordinate (p ++ f) r (point_count p + k) ≡ coordinate f r k
  unfolding coordinate
  fixed_row_lem r k h l =
      let e : (point_count p + k) * 3 + r ≡ length p + (k * 3 + r) = omega arith in
      ap (λ (i : ℕ). get_or (p ++ f) i nan) (off-add ((point_count p + k) * 3) r ∙ e) ∙ get_or-append-add p f (k * 3 + r) nan ∙ ap (λ (i : ℕ). get_or f i nan) (sym (off-add (k * 3) r))

  -- a sum over all rows, of a term that looks at one row's coordinates
  module _ (term : List Float → ℕ → Float) (site : (k : ℕ) → k < point_count p → term (p ++ f) k ≡ term p k) (fixed : (k : ℕ) → k < point_count f → term (p ++ f) (point_count p + k) ≡ term f k) where
    sum_both : sum_from_zero (point_count (p ++ f)) (term (p ++ f)) ≡ sum_from (sum_from_zero (point_count p) (term p)) (point_count f) (term f)
    sum_both =
        ap (λ (n : ℕ). sum_from_zero n (term (p ++ f))) both_count ∙ sum_from_parts zero_f (point_count p) (point_count f) (term (p ++ f))
        ∙ sum_from-same _ (point_count f) _ _ fixed ∙ ap (λ (a : Float). sum_from a (point_count f) (term f)) (sum_from-same zero_f (point_count p) _ _ site)

  coordinate-both : (r : ℕ) → r < 3 → coordinate_sum (p ++ f) r ≡ sum_from (sum_from_zero (point_count p) (coordinate p r)) (point_count f) (coordinate f r)
  unfolding coordinate_sum
  coordinate-both r h = sum_both (λ l. coordinate l r) (λ k l. site_row r k h l) (λ k l. fixed_row_lem r k h l)

  spread-both : (q : List Float) (r c : ℕ) → r < 3 → c < 3 → sum_from_zero (point_count (p ++ f)) (spread (p ++ f) q r c) ≡ sum_from (sum_from_zero (point_count p) (spread p q r c)) (point_count f) (spread f q r c)
  spread-both q r c h j = sum_both (λ l. spread l q r c) site fixed
    where
      site : (k : ℕ) → k < point_count p → spread (p ++ f) q r c k ≡ spread p q r c k
      site k l = unfold spread difference in rw (site_row r k h l, site_row c k j l)

      fixed : (k : ℕ) → k < point_count f → spread (p ++ f) q r c (point_count p + k) ≡ spread f q r c k
      fixed k l = unfold spread difference in rw (fixed_row_lem r k h l, fixed_row_lem c k j l)

  pub sums_by : (site all : List Float) → site ≡ add_points p (zero_f ∷ zero_f ∷ zero_f ∷ []) → all ≡ add_points f site → all ≡ tab 3 (coordinate_sum (p ++ f))
  sums_by site all s a = rw (a, s, coordinate-both 0 (omega arith), coordinate-both 1 (omega arith), coordinate-both 2 (omega arith))

  pub centroid_by : (sums : List Float) (n : Float) → sums ≡ tab 3 (coordinate_sum (p ++ f)) → n ≡ number_of (point_count p + point_count f) → divided 3 sums n ≡ centroid (p ++ f)
  unfolding centroid
  centroid_by sums n s counted = rw (s, counted, both_count)

  pub scatter_by : (q site all : List Float) (n : Float) → n ≡ number_of (point_count p + point_count f) → site ≡ add_spread p q (zero_f ∷ zero_f ∷ zero_f ∷ zero_f ∷ zero_f ∷ zero_f ∷ []) → all ≡ add_spread f q site
      → let xx = div binary64 (all ! 0) n in let xy = div binary64 (all ! 1) n in let xz = div binary64 (all ! 2) n in
      let yy = div binary64 (all ! 3) n in let yz = div binary64 (all ! 4) n in let zz = div binary64 (all ! 5) n in
      xx ∷ xy ∷ xz ∷ xy ∷ yy ∷ yz ∷ xz ∷ yz ∷ zz ∷ [] ≡ scatter (p ++ f) q
  unfolding scatter
  scatter_by q site all n counted s a =
      let swap = spread_swap (p ++ f) q (point_count (p ++ f)) in
      let both = spread-both q in
      rw (
        a,
        s,
        counted,
        swap 1 0,
        swap 2 0,
        swap 2 1,
        both 0 0 (omega arith) (omega arith),
        both 0 1 (omega arith) (omega arith),
        both 0 2 (omega arith) (omega arith),
        both 1 1 (omega arith) (omega arith),
        both 1 2 (omega arith) (omega arith),
        both 2 2 (omega arith) (omega arith),
        both_count,
      )
