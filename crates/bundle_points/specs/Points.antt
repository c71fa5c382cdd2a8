-- What a plane is fitted to, point by point: the centroid of the points, and their scatter about it. Definitions only.
-- all: the site points, frame after frame, and then the fixed ones, three numbers each. Row k is point k of them.
use Rattle.std.specs.Prelude.{ℕ, ◌/◌, List, ◌++◌, length, pos, Float}
use Rattle.std.specs.Float.{binary64}
use Rattle.std.specs.Float.Ieee.{sub, div, of_int}
use Rattle.sums.specs.Sum.{◌⊗◌, sum_from_zero, tab, grid, at}
use Rattle.lists.specs.Part.{◌!◌}

-- the most points, fixed ones too
abbrev pub most_points : ℕ
most_points = 65536

-- how many points a list is
abbrev pub point_count : List Float → ℕ
point_count l = length l / 3

-- p_r of point k
unfoldable pub coordinate : List Float → ℕ → ℕ → Float
coordinate l r k = at 3 l r k

-- N as an f64: exact, since there are at most 65,536 points
abbrev pub number_of : ℕ → Float
number_of n = of_int binary64 (pos n)

-- Σ₀ p_r
unfoldable pub coordinate_sum : List Float → ℕ → Float
coordinate_sum all r = sum_from_zero (point_count all) (coordinate all r)

-- centroid_r = (Σ₀ p_r) / N
unfoldable pub centroid : List Float → List Float
centroid all = tab 3 (λ r. div binary64 (coordinate_sum all r) (number_of (point_count all)))

-- p_r - q_r of point k
unfoldable pub difference : List Float → List Float → ℕ → ℕ → Float
difference all q r k = sub binary64 (coordinate all r k) (q ! r)

-- (p_r - q_r)·(p_c - q_c) of point k
unfoldable pub spread : List Float → List Float → ℕ → ℕ → ℕ → Float
spread all q r c k = difference all q r k ⊗ difference all q c k

-- scatter(r,c) = (Σ₀ (p_r - q_r)·(p_c - q_c)) / N
unfoldable pub scatter : List Float → List Float → List Float
scatter all q = grid 3 3 (λ r c. div binary64 (sum_from_zero (point_count all) (spread all q r c)) (number_of (point_count all)))

-- what a host asks for: the centroid, then the scatter about it by columns
abbrev pub fit_of : List Float → List Float
fit_of all = centroid all ++ scatter all (centroid all)
