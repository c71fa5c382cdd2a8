use mathlib.Core.Path.{◌≡◌}
use Rattle.sums.specs.Sum.{◌⊗◌, sum_to}
use Rattle.normal_blocks.specs.Target.{number_from}
use Rattle.transform_products.proofs.right_at.Given as goal

abbrev pub invariant-loop-k : goal.invariant-loop-k
invariant-loop-k l = l.sum ≡ sum_to l.k (λ i. number_from l.a l.at i ⊗ number_from l.t l.from i)
