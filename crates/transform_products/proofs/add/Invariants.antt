use Rattle.transform_products.specs.Rows.{Raised}
use Rattle.transform_products.proofs.add.Given as goal

abbrev pub invariant-loop-k : goal.invariant-loop-k
invariant-loop-k l = Raised l.x l.a l.at l.lanes l.k l.initial.s l.s
