-- `match_sums::add_groups` meets its contract: group after group. Assumes nothing.
use mathlib.Core.Path.{◌≡◌, refl}
use native.Mathlib.Omega.{arith}
use Rattle.match_sums.specs.Groups.{by_groups, groups, match_count, list_cost}
use Rattle.match_sums.specs.Laws.{summed_none, summed_more}
use Rattle.sums.specs.Laws.{sum_from_more}
use borrow.Author.Rules.{rules}
use Rattle.match_sums.proofs.add_groups.Goals as goal

pub loop-q-init : goal.loop-q-init
loop-q-init c = (search rules, search rules, refl, summed_none _ _ _ _ _)

pub loop-q-preserved : goal.loop-q-preserved
loop-q-preserved c =
    let at = c.loop-q in
    let a = c.args in
    let did = c.add_group_sums-cost.ensures in (
      omega (arith, did.1.size),
      omega (arith, did.1.long),
      rw (sum_from_more _ at.q _, did.0, at.invariant.2),
      summed_more a.dof at.q _ _ _ _ _ _ _ _ at.invariant.3 did.1,
    )

pub returns : goal.returns
unfolding list_cost by_groups
returns c =
    let at = c.loop-q in
    let e : at.q ≡ groups (match_count c.args.m.now.list.now) = omega arith in
    (rw e at at.invariant.2, rw e at at.invariant.3)
