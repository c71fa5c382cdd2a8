-- `frame_blocks::add_batch` meets its contract: after k turns the batch's first k frames are added and their costs summed. Assumes nothing.
use mathlib.Core.Path.{◌≡◌, refl, ◌∙◌}
use native.Mathlib.Omega.{arith}
use Rattle.frame_blocks.specs.Frames.{first-none, batch_more, run_fits, run_square, run_held}
use Rattle.frame_blocks.proofs.add_batch.Goals as goal

pub loop-k-init : goal.loop-k-init
loop-k-init g c = (refl, refl, first-none _ _ _ _ _ _)

pub add_frame-requires : goal.add_frame-requires
add_frame-requires g c =
    let l = c.loop-k in
    let ready = c.requires.1 in (
      ready.narrow,
      run_fits _ _ _ _ _ _ _ ready _ _ _ l.invariant.1 c.lookup.ensures (omega arith),
      run_square _ _ _ _ _ _ _ ready _ _ l.invariant.0 l.invariant.1,
      run_held _ _ _ _ _ _ _ ready _ (omega arith),
    )

pub loop-k-preserved : goal.loop-k-preserved
loop-k-preserved g c =
    let l = c.loop-k in
    let cells = c.args.pulls.now in (
      c.add_frame.auto.h ∙ l.invariant.0,
      c.add_frame.auto.g ∙ l.invariant.1,
      batch_more _ _ _ _ _ _ _ cells _ _ l.k _ _ _ _ l.s _ l.h _ _ l.g _ l.invariant.1 c.lookup.ensures c.pull_at-p.ensures c.add_frame.ensures l.invariant.2,
    )

pub returns : goal.returns
returns g c =
    let l = c.loop-k in
    let e : l.k ≡ c.args.size = omega arith in
    rw e at l.invariant.2
