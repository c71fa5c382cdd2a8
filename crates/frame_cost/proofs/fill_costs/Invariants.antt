use mathlib.Core.Path.{◌≡◌}
use lib.ListN.{length}
use Prim.Native.Nat.{◌+◌}
use Rattle.sums.specs.Fill.{First}
use Rattle.frame_cost.specs.Cost.{cost_at}
use Rattle.frame_cost.proofs.fill_costs.Given as goal

abbrev pub invariant-loop-k : goal.invariant-loop-k
invariant-loop-k l =
    (length l.costs ≡ 8) × First l.k l.costs (λ k. cost_at l.frames l.actions l.plane.normal l.plane.offset l.weight (l.from + k))
