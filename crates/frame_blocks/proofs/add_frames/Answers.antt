-- `frame_blocks::add_frames` meets its contract: before each batch the frames up to it are added and their costs summed. Assumes nothing.
use mathlib.Core.Path.{◌≡◌, refl, ◌∙◌}
use Prim.Native.Nat.{◌+◌}
use native.Mathlib.Omega.{arith}
use borrow.Author.Rules.{rules}
use lib.ListN.{length}
use Rattle.frame_blocks.specs.Frames.{RunAdded, first-none, run_upto, batch_added}
use Rattle.frame_blocks.proofs.add_frames.Goals as goal
use Rattle.frame_blocks.proofs.add_frames.Goals.{After-add_batch-sum}

pub loop-from-init : goal.loop-from-init
loop-from-init g c = (search rules, refl, refl, first-none _ _ _ _ _ _)

pub fill_pulls-requires : goal.fill_pulls-requires
fill_pulls-requires g c =
    let ready = c.requires in
    (search rules, omega (arith, ready.held), omega (arith, ready.acted))

pub add_batch-sum-requires : goal.add_batch-sum-requires
add_batch-sum-requires g c =
    let l = c.loop-from in
    (search rules, run_upto _ _ _ _ _ _ _ c.requires _ _ _ l.invariant.1 l.invariant.2 (omega arith))

-- the frames of one batch more
added : (g : _) (c : After-add_batch-sum g) → let l = c.loop-from in let a = c.args in
    RunAdded (length a.g.now) g.row.W a.call.now.frames.now a.call.now.actions.now a.call.now.map.now a.call.now.plane.normal a.call.now.plane.offset a.call.now.weight (l.from + c.batch_size-size.result) a.start c.add_batch-sum.result a.h.now c.add_batch-sum.new.h a.g.now c.add_batch-sum.new.g
added g c =
    let l = c.loop-from in
    batch_added _ _ _ _ _ _ _ _ l.from _ _ _ _ l.sum _ _ l.h _ _ l.g _ l.invariant.2 c.fill_pulls.ensures c.add_batch-sum.ensures l.invariant.3

pub loop-from-preserved : goal.loop-from-preserved
loop-from-preserved g c =
    let l = c.loop-from in
    let e : c.batch_size-size.result ≡ 4 = omega arith in (
      search rules,
      c.add_batch-sum.auto.h ∙ l.invariant.1,
      c.add_batch-sum.auto.g ∙ l.invariant.2,
      rw e at (added g (goal.at.loop-from-preserved g c).After-add_batch-sum),
    )

pub returns : goal.returns
returns g c =
    let l = c.loop-from in
    let e : l.from ≡ c.args.count = omega arith in
    rw e at l.invariant.3

pub returns-2 : goal.returns-2
returns-2 g c =
    let e : c.loop-from.from + c.batch_size-size.result ≡ c.args.count = omega arith in
    rw e at (added g (goal.at.returns-2 g c).After-add_batch-sum)
