-- `frame_roots::fill_roots` meets its contract: of what the roots are taken, their roots, and these put together. Assumes nothing.
use Rattle.std.proofs.Common.{◌*◌, arith}
use Rattle.square_root.proofs.FirstRoots.{first_roots}
use Rattle.frame_roots.specs.Batch.{rooted_by}
use Rattle.frame_roots.proofs.fill_roots.Goals as goal

pub returns : goal.returns
returns c =
    let a = c.args in
    let four = c.fill_radicands.ensures in
    let roots = first_roots (a.size * 4) c.fill_radicands.new.fours c.sqrt_all.new.xs (omega (arith, four.long)) c.sqrt_all.ensures in
    rooted_by a.frames.now a.ds.now a.from four roots c.put_roots.ensures
