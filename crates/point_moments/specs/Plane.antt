-- The plane of a set of points: its rule is not the fit's. Definitions only.
use Rattle.std.specs.Prelude.{ℕ, cond, List, [], ◌∷◌, Option, Some, None, Float}
use Rattle.std.specs.Float.{binary64}
use Rattle.std.specs.Float.Ieee.{of_bits, neg, lt}
use Rattle.sums.specs.Sum.{dot}
use Rattle.decomposition.specs.Axes.{rising_of}
use Rattle.decomposition.specs.Gaps.{moments_plane}
use Rattle.decomposition.specs.declared.Axes.{Axes}
use Rattle.point_moments.specs.Scatter.{mean}
use Rattle.point_moments.specs.declared.PointMoments.{PointMoments}
use Rattle.point_moments.specs.declared.plane.MomentsPlane.{MomentsPlane}

-- 3, by its bits
abbrev pub three : Float
three = of_bits binary64 0x4008_0000_0000_0000

-- the vector of the first eigenvalue, -(Σ n_r·mean_r), and the eigenvalues as they rise
abbrev pub plane_by : Axes → List Float → MomentsPlane
plane_by d mean = record { normal = d.normal; offset = neg (dot 3 d.normal mean); eigenvalues = d.first ∷ d.second ∷ d.third ∷ [] }

-- none if count < 3 or gap < 1e-14; a NaN count and a NaN gap pass
unfoldable pub plane_of : PointMoments → List ℕ → Option MomentsPlane
plane_of m d =
    cond (lt m.count three) None
    (cond (moments_plane (rising_of d)) (Some (plane_by (rising_of d) (mean m))) None)
