-- `point_moments::PointMoments::mean_and_scatter` meets its contract: one test, and what the callees give. Assumes nothing.
use mathlib.Core.Path.{◌≡◌, ap}
use mathlib.Core.Bool.{true, false, not}
use Rattle.point_moments.specs.Scatter.{has_mean, mean_and_scatter}
use Rattle.point_moments.proofs.PointMoments.mean_and_scatter.Goals as goal

pub returns-then-n : goal.returns-then-n
unfolding mean_and_scatter
returns-then-n c =
    let none : has_mean c.args.self ≡ false = ap not c.if-n.true in
    rw none

pub returns : goal.returns
unfolding mean_and_scatter
returns c =
    let one : has_mean c.args.self ≡ true = ap not c.if-n.false in
    rw (c.scatter_of-scatter.ensures, c.divided-mean.ensures, one)
