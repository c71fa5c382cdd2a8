use mathlib.Core.Path.{◌≡◌}
use Rattle.sums.specs.Sum.{zero_f, sum_from}
use Rattle.match_sums.specs.Groups.{cost_term, group_sum, match_count}
use Rattle.match_sums.proofs.cost.Given as goal

abbrev pub invariant-loop-q : goal.invariant-loop-q
invariant-loop-q l = l.cost ≡ sum_from zero_f l.q (group_sum (match_count l.list) (cost_term l.x l.list))
