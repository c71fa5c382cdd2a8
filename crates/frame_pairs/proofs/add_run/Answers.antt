-- `frame_pairs::add_run` meets its contract: before each pair the frames up to it are added and their costs summed. Assumes nothing.
use Prim.Native.Nat.{◌+◌, ◌*◌}
use mathlib.Core.Path.{◌≡◌, refl, ◌∙◌}
use native.Mathlib.Omega.{arith}
use borrow.Author.Rules.{rules}
use lib.ListN.{length, length-drop}
use Rattle.frame_blocks.specs.Frames.{first-none}
use Rattle.frame_pairs.specs.Pairs.{RunAdded}
use Rattle.frame_pairs.proofs.Lanes.{parts_fit}
use Rattle.frame_pairs.proofs.Runs.{rest, pair_added}
use Rattle.frame_pairs.proofs.add_run.Goals as goal
use Rattle.frame_pairs.proofs.add_run.Goals.{After-add_parts-sum}

pub loop-from-init : goal.loop-from-init
loop-from-init g c = (search rules, refl, refl, first-none _ _ _ _ _ _)

pub overflow_mul-f : goal.overflow_mul-f
overflow_mul-f g c = omega (arith, c.requires.2.framed)

pub overflow_mul-x : goal.overflow_mul-x
overflow_mul-x g c = omega (arith, c.requires.2.acted)

pub overflow_mul-t : goal.overflow_mul-t
overflow_mul-t g c = omega (arith, c.requires.2.there)

pub parts-cells-requires : goal.parts-cells-requires
parts-cells-requires g c =
    let a = c.args in
    let ready = c.requires.2 in (
      parts_fit g.row.COLS g.row.N c.requires.0 c.requires.1,
      (
        c.requires.0,
        c.requires.1,
        omega arith,
        rw rest (omega (arith, length-drop (13 * c.loop-from.from) a.frames.now, ready.framed)),
        rw rest (omega (arith, length-drop (120 * c.loop-from.from) a.actions.now, ready.acted)),
        rw rest (omega (arith, length-drop (81 * c.loop-from.from) a.transforms.now, ready.there)),
      ),
    )

pub add_parts-sum-requires : goal.add_parts-sum-requires
add_parts-sum-requires g c =
    let l = c.loop-from in
    let ready = c.requires.2 in
    (c.requires.0, c.parts-cells.ensures.long, omega arith, omega arith, rw (l.invariant.1, l.invariant.2) ready.square, λ k b. rw l.invariant.2 (ready.fits k (omega arith)))

-- the frames of one pair more
added : (g : _) (c : After-add_parts-sum g) → let l = c.loop-from in let a = c.args in
    RunAdded (length a.g.now) g.row.COLS a.frames.now a.actions.now a.map.now a.transforms.now a.plane.normal a.plane.offset a.weight (l.from + c.batch_size-size.result) a.start c.add_parts-sum.result a.h.now c.add_parts-sum.new.h a.g.now c.add_parts-sum.new.g
added g c =
    let l = c.loop-from in
    pair_added g.row.COLS _ _ _ _ _ _ _ l.from _ _ _ _ _ l.sum _ _ l.h _ _ l.g _ l.invariant.2 (rw (rest, rest, rest) at c.parts-cells.ensures) c.add_parts-sum.ensures l.invariant.3

pub loop-from-preserved : goal.loop-from-preserved
loop-from-preserved g c =
    let l = c.loop-from in
    let e : c.batch_size-size.result ≡ 2 = omega arith in (
      search rules,
      c.add_parts-sum.auto.h ∙ l.invariant.1,
      c.add_parts-sum.auto.g ∙ l.invariant.2,
      rw e at (added g (goal.at.loop-from-preserved g c).After-add_parts-sum),
    )

pub returns : goal.returns
returns g c =
    let l = c.loop-from in
    let e : l.from ≡ c.args.count = omega arith in
    rw e at l.invariant.3

pub returns-2 : goal.returns-2
returns-2 g c =
    let e : c.loop-from.from + c.batch_size-size.result ≡ c.args.count = omega arith in
    rw e at (added g (goal.at.returns-2 g c).After-add_parts-sum)
