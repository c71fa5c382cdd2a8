use mathlib.Core.Path.{◌≡◌}
use lib.ListN.{length}
use Rattle.sums.specs.Sum.{◌⊗◌}
use Rattle.sums.specs.Fill.{First}
use Rattle.lists.specs.Part.{◌!◌}
use Rattle.transform_products.proofs.start.Given as goal

abbrev pub invariant-loop-k : goal.invariant-loop-k
invariant-loop-k l = (length l.s ≡ 10) × First l.k l.s (λ i. l.x ⊗ (l.a ! i))
