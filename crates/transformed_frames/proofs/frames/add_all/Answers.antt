-- `transformed_frames::frames::add_all` meets its contract: all frames added, or their costs alone, and the fixed set's cost with theirs. Assumes nothing.
use mathlib.Core.Path.{refl}
use Rattle.frame_blocks.specs.Frames.{all_added}
use Rattle.transformed_frames.proofs.Laws.{all_alone}
use Rattle.transformed_frames.proofs.frames.add_all.Goals as goal

pub returns-then-map-eq0 : goal.returns-then-map-eq0
returns-then-map-eq0 c =
    all_alone _ _ _ _ _ _ _ _ _ _ _ _ _ _ _ _ refl c.if-map-eq0.true c.frames_cost-alone.ensures c.with_fixed.ensures

pub returns : goal.returns
returns c =
    all_added _ _ _ _ _ _ _ _ _ _ _ _ _ _ _ refl c.with_fixed-2.ensures c.add_frames-sum.ensures
