-- `transformed_frames::frames::add_frames` meets its contract: when frame k is reached the frames before it are added and their costs summed. Assumes nothing.
use mathlib.Core.Path.{◌≡◌, refl, ◌∙◌}
use native.Mathlib.Omega.{arith}
use borrow.Author.Rules.{rules}
use Rattle.frame_blocks.specs.Frames.{first-none}
use Rattle.transformed_frames.proofs.Runs.{run_ready, run_summed}
use Rattle.transformed_frames.proofs.frames.add_frames.Goals as goal

pub loop-k-init : goal.loop-k-init
loop-k-init c = (search rules, refl, refl, first-none _ _ _ _ _ _)

pub add_run-sum-requires : goal.add_run-sum-requires
add_run-sum-requires c =
    let pre = c.requires in
    run_ready _ _ _ _ _ _ _ _ pre.1 _ _ _ _ _ c.loop-k.invariant.1 c.loop-k.invariant.2 pre.0 c.run_end-end.ensures

pub loop-k-smaller : goal.loop-k-smaller
loop-k-smaller c =
    omega (arith, c.run_end-end.ensures.0, c.run_end-end.ensures.1)

pub loop-k-preserved : goal.loop-k-preserved
loop-k-preserved c =
    let l = c.loop-k in (
      c.run_end-end.ensures.1,
      c.add_run-sum.auto.h ∙ l.invariant.1,
      c.add_run-sum.auto.g ∙ l.invariant.2,
      run_summed _ _ _ _ _ _ _ _ _ _ _ _ _ _ _ _ l.h _ _ l.g _ l.invariant.2 c.run_end-end.ensures.0 c.add_run-sum.ensures l.invariant.3,
    )

pub returns : goal.returns
returns c =
    let l = c.loop-k in
    let e : l.k ≡ c.args.count = omega arith in
    rw e at l.invariant.3
