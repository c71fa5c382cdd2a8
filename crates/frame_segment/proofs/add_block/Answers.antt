-- `frame_segment::add_block` meets its contract: the columns of both turns are the block. Assumes nothing.
use native.Mathlib.Omega.{arith}
use Rattle.frame_segment.specs.Columns.{columns-two}
use Rattle.frame_segment.proofs.add_block.Goals as goal

pub returns : goal.returns
returns c =
    columns-two _ _ _ _ _ _ _ (omega arith) c.add_columns.ensures c.add_columns-2.ensures
