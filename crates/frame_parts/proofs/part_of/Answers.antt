-- `frame_parts::part_of` meets its contract: of the rows that the calls make, the numbers are the part. Assumes nothing.
use Rattle.frame_parts.specs.Parts.{part_is}
use Rattle.frame_parts.proofs.part_of.Goals as goal

pub returns : goal.returns
returns c =
    let a = c.args in
    part_is a.x.now a.plane.normal a.f a.plane.offset a.weight c.frame_pull-pull.ensures c.of_frame-r.ensures c.column-u.ensures c.column-v.ensures c.column-w.ensures c.vector-g.ensures
