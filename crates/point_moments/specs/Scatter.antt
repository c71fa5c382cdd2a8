-- The mean of a set of points, the scatter about it, and the centred frame, entry by entry. Definitions only.
use Rattle.std.specs.Prelude.{ℕ, Bool, not, cond, List, ◌∷◌, ◌++◌, Option, Some, None, Float}
use Rattle.std.specs.Float.Ieee.{le}
use Rattle.sums.specs.Sum.{zero_f, scaled, divided}
use Rattle.moment_matrices.specs.Matrices.{scatter_of}
use Rattle.lists.specs.Part.{◌!◌, part}
use Rattle.point_moments.specs.declared.PointMoments.{PointMoments}
use Rattle.point_moments.specs.declared.scatter.MeanAndScatter.{MeanAndScatter}
use Rattle.point_moments.specs.declared.scatter.Centred.{Centred}

-- sum_r / count
abbrev pub mean : PointMoments → List Float
mean m = divided 3 m.sum m.count

abbrev pub scatter : PointMoments → List Float
scatter m = scatter_of m.outer (mean m) m.count

-- there is a mean unless the count is at or below 0; a NaN count has one
abbrev pub has_mean : PointMoments → Bool
has_mean m = not (le m.count zero_f)

-- the mean u and the scatter s about it
abbrev pub mean_by : List Float → List Float → MeanAndScatter
mean_by u s = record { mean = u; scatter = s }

-- none without a mean
unfoldable pub mean_and_scatter : PointMoments → Option MeanAndScatter
mean_and_scatter m = cond (has_mean m) (Some (mean_by (mean m) (scatter m))) None

-- of a set that has a mean: the same, with the scatter times the count
unfoldable pub centred : PointMoments → Centred
centred m = record { count = m.count; mean = mean m; scatter = scaled 9 (scatter m) m.count }

-- how many numbers a centred frame is
abbrev pub CENTRED : ℕ
CENTRED = 13

-- count at 0, mean at 1..3, scatter(r,c) at 4 + 3c + r
abbrev pub centred_of : List Float → Centred
centred_of l = record { count = l ! 0; mean = part 3 l 1; scatter = part 9 l 4 }

abbrev pub centred_list : Centred → List Float
centred_list f = f.count ∷ part 3 f.mean 0 ++ part 9 f.scatter 0
