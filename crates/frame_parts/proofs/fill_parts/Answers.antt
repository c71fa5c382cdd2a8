-- `frame_parts::fill_parts` meets its contract: after k turns the parts of the batch's first k frames are there. Assumes nothing.
use Prim.Native.Nat.{◌+◌}
use mathlib.Core.Path.{◌≡◌, refl}
use native.Mathlib.Omega.{arith}
use Rattle.batches.specs.Beside.{beside_none, beside_more}
use Rattle.frame_parts.specs.Parts.{numbers_of, part_of, part_at}
use Rattle.frame_parts.proofs.fill_parts.Goals as goal

pub loop-k-init : goal.loop-k-init
loop-k-init c = beside_none _ (omega arith)

pub loop-k-preserved : goal.loop-k-preserved
unfolding part_of
loop-k-preserved c =
    let l = c.loop-k in
    let a = c.args in
    let is : numbers_of c.part_of.result ≡ part_at a.frames.now a.actions.now a.plane.normal a.plane.offset a.weight (a.from + l.k)
    = rw (c.frame_and_action.ensures.1, c.frame_and_action.ensures.0) at c.part_of.ensures in
    beside_more _ (omega (arith, c.requires.0, c.loop-k-test.true)) is refl c.put_part.ensures l.invariant

pub returns : goal.returns
returns c =
    let l = c.loop-k in
    let e : l.k ≡ c.args.size = omega arith in
    rw e at l.invariant
