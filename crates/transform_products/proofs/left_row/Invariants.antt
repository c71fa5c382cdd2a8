use Rattle.sums.specs.Sum.{◌⊗◌, sum_to}
use Rattle.normal_blocks.specs.Target.{number_from}
use Rattle.transform_products.specs.Rows.{rows_of, Sums}
use Rattle.transform_products.proofs.left_row.Given as goal

abbrev pub invariant-loop-r : goal.invariant-loop-r
invariant-loop-r l = Sums l.lanes (λ k. sum_to l.r (λ q. number_from l.t l.from q ⊗ rows_of l.stride l.a q k)) l.s
