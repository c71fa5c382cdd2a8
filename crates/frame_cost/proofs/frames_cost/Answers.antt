-- `frame_cost::frames_cost` meets its contract: whenever a batch starts, the costs of the frames before it are summed. Assumes nothing.
use mathlib.Core.Path.{◌≡◌, sym, ◌∙◌}
use Prim.Native.Nat.{◌+◌}
use native.Mathlib.Omega.{arith}
use borrow.Author.Rules.{rules}
use Rattle.sums.specs.Sum.{zero_f, sum_from_zero}
use Rattle.sums.specs.Laws.{sum_from-same, sum_from_parts}
use Rattle.frame_cost.specs.Cost.{cost_at}
use Rattle.frame_cost.proofs.frames_cost.Goals as goal
use Rattle.frame_cost.proofs.frames_cost.Goals.{After-with_costs-sum}

-- the frames of one batch more
summed : (c : After-with_costs-sum) → let at = c.loop-from in let a = c.args in
    c.with_costs-sum.result ≡ sum_from_zero (at.from + c.batch_size-size.result) (cost_at a.frames.now a.actions.now a.plane.normal a.plane.offset a.weight)
summed c =
    let at = c.loop-from in
    let a = c.args in
    let cost = cost_at a.frames.now a.actions.now a.plane.normal a.plane.offset a.weight in
    let size = c.batch_size-size.result in
    rw at.invariant.1 at (c.with_costs-sum.ensures ∙ sum_from-same at.sum size _ _ c.fill_costs.ensures) ∙ sym (sum_from_parts zero_f at.from size cost)

pub loop-from-preserved : goal.loop-from-preserved
loop-from-preserved c =
    let e : c.batch_size-size.result ≡ 8 = omega arith in
    (search rules, rw e at (summed (goal.at.loop-from-preserved c).After-with_costs-sum))

pub returns-2 : goal.returns-2
returns-2 c =
    let e : c.loop-from.from + c.batch_size-size.result ≡ c.args.count = omega arith in
    rw e at (summed (goal.at.returns-2 c).After-with_costs-sum)
