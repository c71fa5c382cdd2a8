use mathlib.Core.Path.{◌≡◌}
use lib.ListN.{length}
use Rattle.sums.specs.Sum.{zero_f, sum_from}
use Rattle.match_sums.specs.Groups.{cost_term, block_term, vector_term, group_sum, match_count}
use Rattle.match_sums.specs.Cells.{Summed}
use Rattle.match_sums.proofs.add_groups.Given as goal

abbrev pub invariant-loop-q : goal.invariant-loop-q
invariant-loop-q l =
    (length l.u.block ≡ 81) × (length l.u.vector ≡ 9) × (l.cost ≡ sum_from zero_f l.q (group_sum (match_count l.m.list.now) (cost_term l.m.action.now l.m.list.now))) × Summed l.dof l.q (λ i j. group_sum (match_count l.m.list.now) (block_term l.m.action.now l.m.list.now i j)) (λ i. group_sum (match_count l.m.list.now) (vector_term l.m.action.now l.m.list.now i)) l.initial.u.block l.initial.u.vector l.u.block l.u.vector
