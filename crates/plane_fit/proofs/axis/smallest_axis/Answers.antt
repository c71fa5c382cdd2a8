-- `plane_fit::axis::smallest_axis` meets its contract: what the callees give, and the test of the gap. Assumes nothing.
use Rattle.plane_fit.specs.Axis.{found, none}
use Rattle.plane_fit.proofs.axis.smallest_axis.Goals as goal

pub returns-then-a-bound : goal.returns-then-a-bound
returns-then-a-bound c =
    found _ _ c.rising-a.result c.at_least_one-bound.result c.rising-a.ensures c.at_least_one-bound.ensures c.dot3-along.result c.dot3-along.ensures c.if-a-bound.true

pub returns-else-a-bound : goal.returns-else-a-bound
returns-else-a-bound c =
    none _ _ c.rising-a.result c.at_least_one-bound.result c.rising-a.ensures c.at_least_one-bound.ensures c.if-a-bound.false
