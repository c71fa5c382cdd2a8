-- `frame_segment::Rows::of_frame` meets its contract: what the calls say makes the rows of the frame. Assumes nothing.
use Rattle.frame_segment.specs.Steps.{rows_are}
use Rattle.frame_segment.proofs.Rows.of_frame.Goals as goal

pub returns : goal.returns
returns c =
    rows_are _ _ _ _ c.normal_row-o.ensures c.normal_row-d0.ensures c.normal_row-d1.ensures c.normal_row-d2.ensures c.shifted_row-m.ensures
    c.combined_row-p0.ensures c.combined_row-p1.ensures c.combined_row-p2.ensures
