-- `frame_blocks::add_all` meets its contract: all frames added, or their costs alone, and the fixed set's cost with theirs. Assumes nothing.
use mathlib.Core.Path.{refl}
use Rattle.frame_blocks.specs.Frames.{all_added, all_alone, ready_run}
use Rattle.frame_blocks.proofs.add_all.Goals as goal

pub returns-then-map-eq0 : goal.returns-then-map-eq0
returns-then-map-eq0 c =
    all_alone _ _ _ _ _ _ _ _ _ _ _ _ _ _ refl c.if-map-eq0.true c.frames_cost-alone.ensures c.with_fixed.ensures

pub add_run-sum-requires : goal.add_run-sum-requires
add_run-sum-requires c = ready_run _ _ _ _ _ _ _ refl c.requires.0

pub returns : goal.returns
returns c =
    all_added _ _ _ _ _ _ _ _ _ _ _ _ _ _ _ refl c.with_fixed-2.ensures c.add_run-sum.ensures
