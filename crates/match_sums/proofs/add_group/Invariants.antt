use Prim.Native.Nat.{◌≤◌, ◌-◌, ◌+◌}
use mathlib.Core.Path.{◌≡◌}
use lib.ListN.{length}
use Rattle.sums.specs.Sum.{zero_f, sum_from}
use Rattle.match_sums.specs.Groups.{cost_term, block_term, vector_term}
use Rattle.match_sums.specs.Cells.{Summed}
use Rattle.match_sums.proofs.add_group.Given as goal

abbrev pub invariant-loop-i : goal.invariant-loop-i
invariant-loop-i l =
    (l.i ≤ l.size) × (length l.u.block ≡ 81) × (length l.u.vector ≡ 9) × (l.cost ≡ sum_from zero_f l.i (λ k. cost_term l.m.action.now l.m.list.now (l.from + k))) × Summed l.dof l.i (λ i j k. block_term l.m.action.now l.m.list.now i j (l.from + k)) (λ i k. vector_term l.m.action.now l.m.list.now i (l.from + k)) l.initial.u.block l.initial.u.vector l.u.block l.u.vector

abbrev pub decreases-loop-i : goal.decreases-loop-i
decreases-loop-i l = l.size - l.i
