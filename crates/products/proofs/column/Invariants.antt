use Rattle.sums.specs.Fill.{Filling}
use Rattle.products.specs.Entry.{column_entry}
use Rattle.products.proofs.column.Given as goal

abbrev pub invariant-loop-r : goal.invariant-loop-r
invariant-loop-r l = Filling 9 l.rows (column_entry l.rows l.inner l.a l.b l.from) l.column l.r
