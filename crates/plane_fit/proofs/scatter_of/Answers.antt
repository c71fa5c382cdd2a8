-- `plane_fit::scatter_of` meets its contract: before each batch the parts of the frames before it are added. Assumes nothing.
use mathlib.Core.Path.{◌≡◌, ◌∙◌}
use Prim.Native.Nat.{◌+◌}
use native.Mathlib.Omega.{arith}
use borrow.Author.Rules.{rules}
use Rattle.plane_fit.specs.Steps.{spread_upto}
use Rattle.plane_fit.specs.Parts.{batch_more}
use Rattle.plane_fit.proofs.scatter_of.Goals as goal
use Rattle.plane_fit.proofs.scatter_of.Goals.{After-with_parts-s}

-- the frames of one batch more
added : (c : After-with_parts-s) → let at = c.loop-from in let a = c.args in
    c.with_parts-s.result.entries ≡ spread_upto a.frames.now a.actions.now a.mean (at.from + c.batch_size-size.result)
added c =
    let at = c.loop-from in
    c.with_parts-s.ensures ∙ batch_more _ _ _ _ _ _ _ at.from _ at.invariant.1 c.fill_parts.ensures.each

pub loop-from-preserved : goal.loop-from-preserved
loop-from-preserved c =
    let e : c.batch_size-size.result ≡ 8 = omega arith in
    (search rules, rw e at (added (goal.at.loop-from-preserved c).After-with_parts-s))

pub returns : goal.returns
returns c =
    let at = c.loop-from in
    let e : at.from ≡ c.args.count = omega arith in
    rw e at at.invariant.1

pub returns-2 : goal.returns-2
returns-2 c =
    let e : c.loop-from.from + c.batch_size-size.result ≡ c.args.count = omega arith in
    rw e at (added (goal.at.returns-2 c).After-with_parts-s)
