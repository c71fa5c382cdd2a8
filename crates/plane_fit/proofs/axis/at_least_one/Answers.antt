-- `plane_fit::axis::at_least_one` meets its contract: above 1, below -1, or between. Assumes nothing.
use Rattle.plane_fit.specs.Axis.{above, below, between}
use Rattle.plane_fit.proofs.axis.at_least_one.Goals as goal

pub returns-then-x : goal.returns-then-x
returns-then-x c = above _ c.if-x.true

pub returns-then-x-2 : goal.returns-then-x-2
returns-then-x-2 c = below _ c.if-x-2.true

pub returns : goal.returns
returns c = between _ c.if-x.false c.if-x-2.false
