-- `frame_blocks::fill_pulls` meets its contract: after k turns the first k pulls are there. Assumes nothing.
use Prim.Native.Nat.{◌+◌}
use mathlib.Core.Path.{◌≡◌}
use native.Mathlib.Omega.{arith}
use borrow.Author.Rules.{rules}
use Rattle.frame_blocks.specs.Pulls.{pull_at, pulled_none, pulled_more}
use Rattle.frame_blocks.proofs.fill_pulls.Goals as goal

pub loop-k-init : goal.loop-k-init
loop-k-init c = pulled_none _ _ _ _ _ _ _ (search rules)

pub loop-k-preserved : goal.loop-k-preserved
unfolding pull_at
loop-k-preserved c =
    let l = c.loop-k in
    let a = c.args in
    let is : c.frame_pull.result ≡ pull_at a.call.now.frames.now a.call.now.actions.now a.call.now.plane.normal a.call.now.plane.offset a.call.now.weight (a.from + l.k)
    = rw (c.frame_pull.ensures, c.frame_and_action.ensures.1, c.frame_and_action.ensures.0) in
    pulled_more _ _ _ _ _ _ (omega arith) is c.put_pull.ensures l.invariant

pub returns : goal.returns
returns c =
    let l = c.loop-k in
    let e : l.k ≡ c.args.size = omega arith in
    rw e at l.invariant
