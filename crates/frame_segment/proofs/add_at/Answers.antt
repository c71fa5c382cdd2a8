-- `frame_segment::add_at` meets its contract: of the frame's rows, block and vector are the frame's. Assumes nothing.
use mathlib.Core.Path.{refl}
use Rattle.frame_segment.specs.Steps.{adds}
use Rattle.frame_segment.proofs.add_at.Goals as goal

pub returns : goal.returns
returns c =
    adds _ _ _ _ _ _ _ refl c.frame_and_action.ensures.0 c.frame_and_action.ensures.1 c.of_frame-r.ensures c.add_block.ensures c.add_vector.ensures
