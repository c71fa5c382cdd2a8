use Rattle.sums.specs.Fill.{Filling}
use Rattle.products.specs.Entry.{row_entry}
use Rattle.products.proofs.vec_mat.Given as goal

abbrev pub invariant-loop-c : goal.invariant-loop-c
invariant-loop-c l = Filling 9 l.cols (row_entry l.rows l.v l.m) l.row l.c
