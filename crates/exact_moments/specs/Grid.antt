-- Points with whole coordinates, and the moments that whole numbers give. Definitions only.
use Rattle.std.specs.Prelude.{ℕ, ◌*◌, ◌/◌, ◌<◌, ◌≤◌, List, [], ◌∷◌, map, length, get_or, ℤ, pos, nat_abs, ◌+ℤ◌, ◌*ℤ◌, Float}
use Rattle.std.specs.Float.{nan, inf, fin}
use Rattle.std.specs.Float.Ieee.{up, down}
use Rattle.sums.specs.Sum.{tab, grid, at}
use Rattle.lists.specs.Part.{◌!◌, part}
use Rattle.call_lists.specs.Lists.{Every}
use Rattle.counts.specs.Whole.{signed, float_of, Whole}
use Rattle.point_moments.specs.declared.PointMoments.{PointMoments}

-- a point: its three coordinates
abbrev pub Point : Type 0
Point = List Float

-- the whole number that a float is; of one that is none, what is before the point
unfoldable pub whole_of : Float → ℤ
whole_of nan = pos 0
whole_of (inf s) = pos 0
whole_of (fin s m e) = signed s (m * up e / down e)

-- x is a whole number of size at most r, of either zero
abbrev pub OnGrid : ℕ → Float → Type 0
OnGrid r x = Whole x (whole_of x) × (nat_abs (whole_of x) ≤ r)

-- the three coordinates of a point are
abbrev pub PointOnGrid : ℕ → Point → Type 0
PointOnGrid r p = (k : ℕ) → k < 3 → OnGrid r (p ! k)

-- at most n points, with whole coordinates of size at most r
pub record Within (n r : ℕ) (l : List Point) : Type 0 where
  pub few : length l ≤ n
  pub grid : Every (PointOnGrid r) l

-- document 02's bounds
abbrev pub POINTS : ℕ
POINTS = 1000000

abbrev pub REACH : ℕ
REACH = 30000

-- ---- in whole numbers

-- a point's three coordinates
abbrev pub whole_point : Point → List ℤ
whole_point p = map whole_of (part 3 p 0)

-- coordinate r of such a point, and the product of two
abbrev pub coordinate : ℕ → List ℤ → ℤ
coordinate r q = get_or q r (pos 0)

abbrev pub product : ℕ → ℕ → List ℤ → ℤ
product r c q = coordinate r q *ℤ coordinate c q

-- Σ_q f q
unfoldable pub total : (List ℤ → ℤ) → List (List ℤ) → ℤ
total f [] = pos 0
total f (q ∷ l) = f q +ℤ total f l

-- the floats of the whole-number count, sums and products; the float of 0 is +0
unfoldable pub exact : List (List ℤ) → PointMoments
exact l = record {
  count = float_of (pos (length l));
  sum = tab 3 (λ r. float_of (total (coordinate r) l));
  outer = grid 3 3 (λ r c. float_of (total (product r c) l));
}

-- m holds the whole-number count, sums and products, number by number and exactly
pub record Exactly (m : PointMoments) (l : List (List ℤ)) : Type 0 where
  pub count : Whole m.count (pos (length l))
  pub sum : (r : ℕ) → r < 3 → Whole (m.sum ! r) (total (coordinate r) l)
  pub outer : (r c : ℕ) → r < 3 → c < 3 → Whole (at 3 m.outer r c) (total (product r c) l)
