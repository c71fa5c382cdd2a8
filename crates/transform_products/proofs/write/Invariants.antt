use Rattle.sums.specs.Fill.{Writing}
use Rattle.lists.specs.Part.{◌!◌}
use Rattle.transform_products.proofs.write.Given as goal

abbrev pub invariant-loop-k : goal.invariant-loop-k
invariant-loop-k l = Writing l.initial.out l.at l.lanes (λ i. l.s ! i) l.out l.k
