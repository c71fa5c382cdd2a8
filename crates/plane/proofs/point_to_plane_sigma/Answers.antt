-- `plane::point_to_plane_sigma` meets its contract: what the callees give, put together. Assumes nothing.
use Rattle.plane.specs.Sigma.{variance}
use Rattle.plane.proofs.point_to_plane_sigma.Goals as goal

pub returns : goal.returns
unfolding variance
returns c =
    rw (c.deviation.ensures, c.plane_term-plane.ensures, c.jacobian.ensures, c.point_term-point.ensures)
