use Prim.Native.Nat.{◌*◌}
use Rattle.sums.specs.Sum.{◌⊗◌, sum_to}
use Rattle.sums.specs.Fill.{Filling}
use Rattle.normal_blocks.specs.Target.{number_from}
use Rattle.transform_products.proofs.right_column.Given as goal

abbrev pub invariant-loop-i : goal.invariant-loop-i
invariant-loop-i l = Filling 9 l.cols (λ j. sum_to l.rows (λ k. number_from l.u (j * l.stride) k ⊗ number_from l.t l.from k)) l.column l.i
