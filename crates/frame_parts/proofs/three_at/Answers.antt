-- `frame_parts::three_at` meets its contract: the numbers e, e + 1 and e + 2 of the part. Assumes nothing.
use Rattle.frame_parts.specs.Parts.{three_is}
use Rattle.frame_parts.proofs.three_at.Goals as goal

pub returns : goal.returns
returns c =
    three_is c.args.cells.now c.args.k c.args.e c.requires.1
