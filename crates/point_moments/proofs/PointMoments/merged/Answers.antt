-- `point_moments::PointMoments::merged` meets its contract: what the callees give, put together. Assumes nothing.
use Rattle.point_moments.specs.Moments.{merged}
use Rattle.point_moments.proofs.PointMoments.merged.Goals as goal

pub returns : goal.returns
unfolding merged
returns c = rw (c.plus-outer.ensures, c.plus-sum.ensures)
