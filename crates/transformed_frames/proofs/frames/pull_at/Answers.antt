-- `transformed_frames::frames::pull_at` meets its contract. Assumes nothing.
use Rattle.frame_blocks.specs.Pulls.{pull_at}
use Rattle.transformed_frames.proofs.frames.pull_at.Goals as goal

pub returns : goal.returns
unfolding pull_at
returns c = rw (c.frame_pull.ensures, c.frame_and_action.ensures.1, c.frame_and_action.ensures.0)
