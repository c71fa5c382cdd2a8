-- `map_planes::matches_refusal` meets its contract: the tests in their order. Assumes nothing.
use mathlib.Core.Path.{◌≡◌, sym, ◌∙◌}
use borrow.Author.Tests.{le-ltb, eq-eqb, ne_eqb}
use borrow.Author.Rules.{rules}
use Rattle.refusals.specs.Number.{number}
use Rattle.refusals.specs.Refusal.{first_of}
use Rattle.map_planes.specs.Reasons.{or_else-some}
use Rattle.map_planes.specs.Calls.{list_reasons, matches_refusal, list-first}
use Rattle.map_planes.proofs.matches_refusal.Goals as goal

pub returns-in_err-list_refusal : goal.returns-in_err-list_refusal
unfolding matches_refusal
returns-in_err-list_refusal c =
    let e : first_of (list_reasons c.args.list.now) ≡ number c.from_residual.result = search rules in
    rw (
      le-ltb _ _ c.if-dof-gt-MOST_DOF.false,
      ne_eqb _ _ c.if-list-eq0.false,
      sym c.bad_matches.ensures ∙ c.if-bad_matches.false,
      c.if-misfit.false,
      list-first _ _,
    )
    (sym (or_else-some _ _ _ e (search rules)))

pub returns-then-action-ne-ACTION : goal.returns-then-action-ne-ACTION
unfolding matches_refusal
returns-then-action-ne-ACTION c =
    rw (
      le-ltb _ _ c.if-dof-gt-MOST_DOF.false,
      ne_eqb _ _ c.if-list-eq0.false,
      sym c.bad_matches.ensures ∙ c.if-bad_matches.false,
      c.if-misfit.false,
      list-first _ _,
      sym c.in_ok-list_refusal.ensures,
      ne_eqb _ _ c.if-action-ne-ACTION.true,
    )

pub returns : goal.returns
unfolding matches_refusal
returns c =
    rw (
      le-ltb _ _ c.if-dof-gt-MOST_DOF.false,
      ne_eqb _ _ c.if-list-eq0.false,
      sym c.bad_matches.ensures ∙ c.if-bad_matches.false,
      c.if-misfit.false,
      list-first _ _,
      sym c.in_ok-list_refusal.ensures,
      eq-eqb _ _ c.if-action-ne-ACTION.false,
    )
