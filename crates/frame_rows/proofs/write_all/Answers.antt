-- `frame_rows::write_all` meets its contract: the frames, then the fixed set. Assumes nothing.
use Rattle.frame_rows.proofs.Loop.{rows_all}
use Rattle.frame_rows.proofs.write_all.Goals as goal

pub returns : goal.returns
returns c =
    let a = c.args in
    let f = c.write_frames.ensures in
    (rows_all a.frames.now a.fixed.now a.actions.now a.ds.now a.plane.normal a.plane.offset a.info a.residual.now _ _ c.requires.0.residual_whole f.residual_is c.write_fixed.ensures, f.jacobian_is)
