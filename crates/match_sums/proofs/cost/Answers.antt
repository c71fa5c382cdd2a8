-- `match_sums::cost` meets its contract: group after group. Assumes nothing.
use Prim.Native.Nat.{◌*◌, ◌+◌}
use mathlib.Core.Path.{◌≡◌, refl, ap, ◌∙◌}
use native.Mathlib.Omega.{arith}
use Rattle.sums.specs.Sum.{zero_f, sum_from}
use Rattle.sums.specs.Laws.{sum_from_more}
use Rattle.match_sums.specs.Groups.{GROUP, cost_term, group_sum, by_groups, groups, match_count, list_cost}
use Rattle.match_sums.specs.Laws.{group_size_fits}
use borrow.Author.Rules.{rules}
use Rattle.match_sums.proofs.cost.Goals as goal

pub group_cost-cost-requires : goal.group_cost-cost-requires
group_cost-cost-requires c =
    let at = c.loop-q in
    let ms = c.args.list.now in
    let fits = group_size_fits (match_count ms) at.q (search rules) in
    omega (arith, fits, c.group_size.ensures)

pub loop-q-preserved : goal.loop-q-preserved
unfolding group_sum
loop-q-preserved c =
    let at = c.loop-q in
    let a = c.args in
    let x = a.x.now in
    let ms = a.list.now in
    let one = c.group_cost-cost.ensures ∙ ap (λ s. sum_from zero_f s (λ k. cost_term x ms (at.q * GROUP + k))) c.group_size.ensures in
    rw (sum_from_more _ at.q _, one, at.invariant)

pub returns : goal.returns
unfolding list_cost by_groups
returns c =
    let at = c.loop-q in
    let e : at.q ≡ groups (match_count c.args.list.now) = omega arith in
    rw e at at.invariant

pub loop-q-init : goal.loop-q-init
loop-q-init c = refl
