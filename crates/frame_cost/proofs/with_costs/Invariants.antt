use mathlib.Core.Path.{◌≡◌}
use Rattle.sums.specs.Sum.{sum_from}
use Rattle.lists.specs.Part.{◌!◌}
use Rattle.frame_cost.proofs.with_costs.Given as goal

abbrev pub invariant-loop-k : goal.invariant-loop-k
invariant-loop-k l = l.s ≡ sum_from l.sum l.k (λ k. l.costs ! k)
