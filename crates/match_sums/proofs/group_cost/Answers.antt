-- `match_sums::group_cost` meets its contract: match after match. Assumes nothing.
use mathlib.Core.Path.{◌≡◌, refl}
use native.Mathlib.Omega.{arith}
use Rattle.sums.specs.Laws.{sum_from_more}
use Rattle.match_sums.specs.Groups.{cost_term}
use Rattle.match_sums.proofs.group_cost.Goals as goal

pub loop-k-init : goal.loop-k-init
loop-k-init c = refl

pub loop-k-preserved : goal.loop-k-preserved
unfolding cost_term
loop-k-preserved c =
    let at = c.loop-k in
    rw (sum_from_more _ at.k _, c.residual_at-r.ensures, at.invariant)

pub returns : goal.returns
returns c =
    let at = c.loop-k in
    let e : c.args.size ≡ at.k = omega arith in
    rw e at.invariant
