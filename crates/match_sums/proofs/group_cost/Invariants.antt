use Prim.Native.Nat.{◌+◌}
use mathlib.Core.Path.{◌≡◌}
use Rattle.sums.specs.Sum.{zero_f, sum_from}
use Rattle.match_sums.specs.Groups.{cost_term}
use Rattle.match_sums.proofs.group_cost.Given as goal

abbrev pub invariant-loop-k : goal.invariant-loop-k
invariant-loop-k l = l.cost ≡ sum_from zero_f l.k (λ k. cost_term l.x l.list (l.from + k))
