-- `frame_blocks::add_threes` meets its contract: before each batch the frames up to it are added and their costs summed. Assumes nothing.
use mathlib.Core.Path.{◌≡◌, refl, ◌∙◌}
use Prim.Native.Nat.{◌+◌}
use native.Mathlib.Omega.{arith}
use borrow.Author.Rules.{rules}
use lib.ListN.{length}
use Rattle.frame_blocks.specs.Frames.{RunAdded, first-none, parts_added, run_upto}
use Rattle.frame_blocks.proofs.add_threes.Goals as goal
use Rattle.frame_blocks.proofs.add_threes.Goals.{After-add_parts-s}

pub loop-from-init : goal.loop-from-init
loop-from-init c = (search rules, refl, refl, refl, first-none _ _ _ _ _ _)

pub fill_parts-requires : goal.fill_parts-requires
fill_parts-requires c =
    let ready = c.requires in
    (search rules, c.loop-from.invariant.3, omega (arith, ready.held), omega (arith, ready.acted))

pub add_parts-s-requires : goal.add_parts-s-requires
add_parts-s-requires c =
    let l = c.loop-from in
    let ready = run_upto _ _ _ _ _ _ _ c.requires (length l.h) (length l.g) (l.from + c.batch_size-size.result) l.invariant.1 l.invariant.2 (omega arith) in
    (search rules, omega (arith, ready.held), ready.square, ready.fits)

-- the frames of one batch more
added : (c : After-add_parts-s) → let l = c.loop-from in let a = c.args in
    RunAdded (length a.g.now) 3 a.call.now.frames.now a.call.now.actions.now a.call.now.map.now a.call.now.plane.normal a.call.now.plane.offset a.call.now.weight (l.from + c.batch_size-size.result) a.start c.add_parts-s.result a.h.now c.add_parts-s.new.h a.g.now c.add_parts-s.new.g
added c =
    let l = c.loop-from in
    parts_added _ _ _ l.from _ _ _ _ _ _ _ _ l.s _ _ l.h _ _ l.g _ l.invariant.2 c.fill_parts.ensures c.add_parts-s.ensures l.invariant.4

pub loop-from-preserved : goal.loop-from-preserved
loop-from-preserved c =
    let l = c.loop-from in
    let e : c.batch_size-size.result ≡ 4 = omega arith in (
      search rules,
      c.add_parts-s.auto.h ∙ l.invariant.1,
      c.add_parts-s.auto.g ∙ l.invariant.2,
      c.fill_parts.ensures.long,
      rw e at (added (goal.at.loop-from-preserved c).After-add_parts-s),
    )

pub returns : goal.returns
returns c =
    let l = c.loop-from in
    let e : l.from ≡ c.args.count = omega arith in
    rw e at l.invariant.4

pub returns-2 : goal.returns-2
returns-2 c =
    let e : c.loop-from.from + c.batch_size-size.result ≡ c.args.count = omega arith in
    rw e at (added (goal.at.returns-2 c).After-add_parts-s)
