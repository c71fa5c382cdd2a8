use Rattle.sums.specs.Fill.{Columns}
use Rattle.products.specs.Entry.{entry_at}
use Rattle.products.proofs.product.Given as goal

abbrev pub invariant-loop-c : goal.invariant-loop-c
invariant-loop-c l = Columns l.rows l.cols (entry_at l.rows l.inner l.a l.b) l.initial.out l.out l.c
