-- `bundle_rows::write_columns` meets its contract: after c turns the first c columns have the rows. Assumes nothing.
use mathlib.Core.Path.{◌≡◌}
use native.Mathlib.Omega.{arith}
use native.Mathlib.Nat.{zero-add}
use Rattle.bundle_rows.proofs.Cells.{columns-none, columns_more}
use Rattle.bundle_rows.proofs.write_columns.Goals as goal

pub write_column-requires : goal.write_column-requires
write_column-requires c =
    (c.loop-c-test.true, rw c.loop-c.invariant.size c.requires)

pub loop-c-preserved : goal.loop-c-preserved
loop-c-preserved c =
    let l = c.loop-c in
    columns_more _ _ _ _ _ 0 l.c 1 _ _ _ l.invariant (rw (zero-add l.c) c.write_column.ensures)

pub returns : goal.returns
returns c =
    let all : c.loop-c.c ≡ c.args.columns.dof = omega arith in
    rw all at c.loop-c.invariant

pub loop-c-init : goal.loop-c-init
loop-c-init c = columns-none _ _ _ _ _ _ _
