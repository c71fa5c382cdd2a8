-- `plane_fit::record` meets its contract: a record that is whole is among those that the list is cut into. Assumes nothing.
use mathlib.Core.Path.{sym, ◌∙◌}
use Prim.Native.Nat.{◌/◌, ◌<◌}
use native.Mathlib.Omega.{arith}
use lib.ListN.{length}
use Rattle.plane_fit.specs.Records.{record_is, record_among}
use Rattle.plane_fit.proofs.record.Goals as goal

pub returns : goal.returns
returns g c =
    let a = c.args in
    let inside : a.k < length a.list.now / g.row.N = grind arith in
    rw c.as_chunks.ensures.front (record_among g.row.N _ a.list.now a.k inside ∙ sym (record_is g.row.N a.list.now a.k c.requires.1))
