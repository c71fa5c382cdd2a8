-- `match_columns::write_columns` meets its contract: match after match, an entry in each of the columns. Assumes nothing.
use Prim.Native.Nat.{◌<◌}
use mathlib.Core.Path.{sym}
use native.Mathlib.Nat.{add-zero, zero-add}
use native.Mathlib.Omega.{arith}
use borrow.Author.Rules.{rules}
use Rattle.match_columns.specs.Columns.{filled_none, filled_put, filled_row, filled_all}
use Rattle.match_columns.specs.Residuals.{rows_by}
use Rattle.match_columns.proofs.write_columns.Goals as goal

pub loop-k-init : goal.loop-k-init
loop-k-init g c = (search rules, filled_none _ _ g.row.W _ _)

pub loop-k-preserved : goal.loop-k-preserved
unfolding rows_by
loop-k-preserved g c =
    let a = c.args in
    let n = g.row.W in
    let turn : c.loop-k.k < a.rows = omega arith in
    let one = rw (c.information.ensures, c.read-m.ensures) at c.put_entries.ensures in
    let row = rw (zero-add n) at (filled_put a.rows a.c n c.loop-k.k 0 a.c n (rows_by a.t.now a.list.now) _ c.loop-k.out _ turn (sym (add-zero a.c)) (omega arith) one c.loop-k.invariant.1) in
    (row.size, filled_row _ _ n _ _ _ _ row)

pub returns : goal.returns
returns g c = filled_all _ _ g.row.W _ _ _ _ c.loop-k-test.false c.loop-k.invariant.1
