-- `match_sums::add_group_sums` meets its contract: the group's sums from +0, added once. Assumes nothing.
use Prim.Native.Nat.{◌*◌, ◌+◌}
use mathlib.Core.Path.{ap, ◌∙◌}
use native.Mathlib.Omega.{arith}
use lib.ListN.{get_or-replicate, length-replicate}
use lib.Ieee.{nan}
use Rattle.sums.specs.Sum.{zero_f, sum_from}
use Rattle.match_sums.specs.Groups.{GROUP, cost_term, block_term, vector_term, group_sum, match_count}
use Rattle.match_sums.specs.Laws.{group_size_fits, group_added}
use borrow.Author.Rules.{rules}
use Rattle.match_sums.proofs.add_group_sums.Goals as goal

pub add_group-cost-requires : goal.add_group-cost-requires
add_group-cost-requires c =
    let a = c.args in
    let fits = group_size_fits (match_count a.m.now.list.now) a.q (search rules) in
    (omega (arith, fits, c.group_size-size.ensures), search rules)

pub returns : goal.returns
unfolding group_sum
returns c =
    let a = c.args in
    let x = a.m.now.action.now in
    let ms = a.m.now.list.now in
    let e = c.group_size-size.ensures in (
      c.add_group-cost.ensures.0 ∙ ap (λ s. sum_from zero_f s (λ k. cost_term x ms (a.q * GROUP + k))) e,
      group_added a.dof (match_count ms) a.q _ (block_term x ms) (vector_term x ms) _ _ _ _ _ _ _ _ (search rules) e (length-replicate 81 zero_f) (length-replicate 9 zero_f)
          (λ p l. get_or-replicate 81 p zero_f nan l) (λ p l. get_or-replicate 9 p zero_f nan l)
          c.add_group-cost.ensures.1 c.add_numbers.ensures c.add_numbers-2.ensures,
    )
