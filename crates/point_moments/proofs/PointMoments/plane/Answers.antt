-- `point_moments::PointMoments::plane` meets its contract: a gap below the bound is no plane. Assumes nothing.
use mathlib.Core.Path.{◌≡◌}
use mathlib.Core.Bool.{true}
use lib.Ieee.{binary64, sub, lt}
use Rattle.decomposition.specs.Gaps.{MIN_EIGEN_GAP, moments_plane}
use Rattle.point_moments.specs.Plane.{plane_of}
use Rattle.point_moments.proofs.PointMoments.plane.Goals as goal

pub returns-then-d : goal.returns-then-d
unfolding plane_of moments_plane
returns-then-d c =
    let axes = c.rising-d.result in
    let narrow : lt (sub binary64 axes.second axes.first) MIN_EIGEN_GAP ≡ true = c.if-d.true in
    rw (c.if-count.false, ← c.rising-d.ensures, narrow)
