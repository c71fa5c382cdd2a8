-- `bundle_rows::write_batch` meets its contract: column after column, or the first columns and then the others. Assumes nothing.
use native.Mathlib.Omega.{arith}
use Rattle.bundle_rows.proofs.Cells.{columns-to}
use Rattle.bundle_rows.proofs.write_batch.Goals as goal

pub returns : goal.returns
returns c =
    columns-to _ _ _ _ _ 6 _ _ _ _ (omega (arith, c.if-columns-c.false)) c.write_rows.ensures c.write_rows-2.ensures
