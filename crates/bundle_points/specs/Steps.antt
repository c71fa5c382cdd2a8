-- The sums on the way to centroid and scatter, over one list of points after the other. Definitions only.
use Rattle.std.specs.Prelude.{◌*◌, ◌+◌, ◌≤◌, ◌≡◌, List, [], ◌∷◌, length, Float}
use Rattle.sums.specs.Sum.{sum_from, tab}
use Rattle.lists.specs.Part.{◌!◌}
use Rattle.bundle_points.specs.Points.{most_points, point_count, coordinate, spread}

-- whole points
abbrev pub Whole : List Float → Type 0
Whole l = length l ≡ point_count l * 3

-- site points and fixed ones that one call takes
pub record Taken (points fixed : List Float) : Type 0 where
  pub whole : Whole points
  pub fixed_whole : Whole fixed
  pub few : point_count points + point_count fixed ≤ most_points

-- the coordinates of a list's points, added to three sums that are there already
abbrev pub add_points : List Float → List Float → List Float
add_points l from = tab 3 (λ r. sum_from (from ! r) (point_count l) (coordinate l r))

-- the products of the differences to q, added to six sums: of the entries (0,0), (0,1), (0,2), (1,1), (1,2) and (2,2)
abbrev pub add_spread : List Float → List Float → List Float → List Float
add_spread l q from =
    let n = point_count l in
    sum_from (from ! 0) n (spread l q 0 0) ∷ sum_from (from ! 1) n (spread l q 0 1) ∷ sum_from (from ! 2) n (spread l q 0 2) ∷
    sum_from (from ! 3) n (spread l q 1 1) ∷ sum_from (from ! 4) n (spread l q 1 2) ∷ sum_from (from ! 5) n (spread l q 2 2) ∷ []
