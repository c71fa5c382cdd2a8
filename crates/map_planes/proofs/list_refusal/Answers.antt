-- `map_planes::list_refusal` meets its contract: the first match that has a reason. Assumes nothing.
use mathlib.Core.Path.{◌≡◌, refl, sym, ◌∙◌}
use native.Mathlib.Omega.{arith}
use Rattle.refusals.specs.Number.{number}
use Rattle.refusals.specs.Refusal.{first_of}
use Rattle.terms.specs.Terms.{upto}
use Rattle.match_sums.specs.Groups.{match_count}
use Rattle.map_planes.specs.Reasons.{none_more, first-at}
use Rattle.map_planes.specs.Calls.{reasons_at, reasons_numbered}
use borrow.Author.Rules.{rules}
use Rattle.map_planes.proofs.list_refusal.Goals as goal

pub loop-k-init : goal.loop-k-init
unfolding upto
loop-k-init c = refl

pub returns-in_err-match_refusal : goal.returns-in_err-match_refusal
unfolding reasons_at
returns-in_err-match_refusal c =
    let at = c.loop-k in
    let ms = c.args.list.now in
    let e : number c.from_residual.result ≡ first_of (reasons_at ms at.k) = search rules in
    e ∙ sym (first-at (reasons_at ms) (reasons_numbered ms) at.k (match_count ms) (search rules) at.invariant (search rules))

pub loop-k-preserved : goal.loop-k-preserved
unfolding reasons_at
loop-k-preserved c =
    let at = c.loop-k in
    let ms = c.args.list.now in
    none_more (reasons_at ms) (reasons_numbered ms) at.k at.invariant (sym c.in_ok-match_refusal.ensures)

pub returns : goal.returns
returns c =
    let e : c.loop-k.k ≡ match_count c.args.list.now = omega arith in
    sym (rw e at c.loop-k.invariant)
