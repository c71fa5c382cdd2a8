-- `frame_cost::fill_costs` meets its contract: after k turns the costs of the batch's first k frames are stored. Assumes nothing.
use mathlib.Core.Path.{◌≡◌}
use Prim.Native.Nat.{◌+◌}
use native.Mathlib.Nat.{not-suc-le-zero}
use native.Mathlib.Omega.{arith}
use borrow.Author.Rules.{rules}
use Rattle.sums.specs.Fill.{first_more}
use Rattle.frame_cost.specs.Cost.{frame_cost, cost_at}
use Rattle.frame_cost.proofs.fill_costs.Goals as goal

pub loop-k-init : goal.loop-k-init
loop-k-init c = (search rules, λ k h. absurd (not-suc-le-zero h))

pub loop-k-preserved : goal.loop-k-preserved
unfolding cost_at frame_cost
loop-k-preserved c =
    let at = c.loop-k in
    let a = c.args in
    let cost = cost_at a.frames.now a.actions.now a.plane.normal a.plane.offset a.weight (a.from + at.k) in
    let stored : c.frame_pull-p.result.cost ≡ cost = rw (c.frame_pull-p.ensures, c.frame_and_action.ensures.1, c.frame_and_action.ensures.0) in
    (search rules, first_more at.costs _ at.k _ (omega arith) stored at.invariant.1)

pub returns : goal.returns
returns c =
    let at = c.loop-k in
    let e : c.args.size ≡ at.k = omega arith in
    rw e at.invariant.1
