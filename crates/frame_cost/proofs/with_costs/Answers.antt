-- `frame_cost::with_costs` meets its contract: after k turns the first k costs are added. Assumes nothing.
use mathlib.Core.Path.{◌≡◌}
use native.Mathlib.Omega.{arith}
use Rattle.sums.specs.Laws.{sum_from_more}
use Rattle.frame_cost.proofs.with_costs.Goals as goal

pub loop-k-preserved : goal.loop-k-preserved
loop-k-preserved c =
    let at = c.loop-k in
    rw (sum_from_more _ at.k _, at.invariant)

pub returns : goal.returns
returns c =
    let e : c.args.size ≡ c.loop-k.k = omega arith in
    rw e c.loop-k.invariant
