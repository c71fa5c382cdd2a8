-- `plane_fit::fill_parts` meets its contract: after k turns the parts of the batch's first k frames are in their places. Assumes nothing.
use mathlib.Core.Path.{◌≡◌, ◌∙◌}
use Prim.Native.Nat.{◌+◌}
use native.Mathlib.Omega.{arith}
use borrow.Author.Rules.{rules}
use Rattle.plane_fit.specs.Steps.{part_is}
use Rattle.plane_fit.specs.Parts.{held_none, held_more}
use Rattle.plane_fit.proofs.fill_parts.Goals as goal

pub loop-k-init : goal.loop-k-init
loop-k-init c = held_none _ _ _ _ _ _ _ (search rules) (search rules) (search rules)

pub loop-k-preserved : goal.loop-k-preserved
loop-k-preserved c =
    let s = c.args in
    let part = part_is _ _ _ _ _ (s.from + c.loop-k.k) c.frame_and_action.ensures.1 c.frame_and_action.ensures.0 in
    held_more _ _ _ s.from c.loop-k.k _ c.loop-k.a _ c.loop-k.b _ c.loop-k.c _ (omega arith) (c.spread_of-part.ensures ∙ part) c.put_column.ensures c.put_column-in-loop-k.ensures c.put_column-in-loop-k-2.ensures c.loop-k.invariant

pub returns : goal.returns
returns c =
    let e : c.loop-k.k ≡ c.args.size = omega arith in
    rw e at c.loop-k.invariant
