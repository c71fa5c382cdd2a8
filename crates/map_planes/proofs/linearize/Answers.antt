-- `map_planes::linearize` meets its contract: the tests in their order, then residuals alone or with the Jacobian. Assumes nothing.
use mathlib.Core.Path.{sym, ◌∙◌}
use borrow.Author.Tests.{lt-ltb, eq-eqb, ne_eqb}
use borrow.Author.Rules.{rules}
use Rattle.refusals.specs.Refusal.{refused, refused_by, accepted}
use Rattle.map_planes.specs.Calls.{matches_refusal, fit}
use Rattle.map_planes.specs.Linearize.{linearize_refusal, jacobian_of, asked_is, good_outputs}
use Rattle.map_planes.proofs.linearize.Goals as goal

pub returns-then-dof-gt-MOST_DOF : goal.returns-then-dof-gt-MOST_DOF
unfolding linearize_refusal matches_refusal
returns-then-dof-gt-MOST_DOF c = refused (rw (lt-ltb _ _ c.if-dof-gt-MOST_DOF.true))

pub returns-in_err-matches_refusal : goal.returns-in_err-matches_refusal
returns-in_err-matches_refusal c =
    refused_by (asked_is _ _ _ _ _ _ _ c.bad_outputs-misfit.ensures (search rules)) (search rules)

pub unwrap-x-requires : goal.unwrap-x-requires
unwrap-x-requires c = c.as_array.ensures.variant.1 (fit _ _ _ _ (sym c.in_ok-matches_refusal.ensures)).action_size_lem

pub write_residuals-requires : goal.write_residuals-requires
write_residuals-requires c =
    let good = fit _ _ _ _ (sym c.in_ok-matches_refusal.ensures) in
    (good_outputs _ _ _ _ (sym c.bad_outputs-misfit.ensures ∙ good.fits)).0

pub returns-then-jacobian-eq0 : goal.returns-then-jacobian-eq0
unfolding jacobian_of
returns-then-jacobian-eq0 c =
    accepted (asked_is _ _ _ _ _ _ _ c.bad_outputs-misfit.ensures c.in_ok-matches_refusal.ensures)
    (rw (c.write_residuals.ensures, eq-eqb _ _ c.if-jacobian-eq0.true, (rw c.unwrap-x.ensures at c.as_array.ensures.cases).same))

pub jacobian-requires : goal.jacobian-requires
jacobian-requires c =
    let good = fit _ _ _ _ (sym c.in_ok-matches_refusal.ensures) in
    let shape = good_outputs _ _ _ _ (sym c.bad_outputs-misfit.ensures ∙ good.fits) in
    (good.narrow, shape.0, shape.1 c.if-jacobian-eq0.false)

pub returns : goal.returns
unfolding jacobian_of
returns c =
    accepted (asked_is _ _ _ _ _ _ _ c.bad_outputs-misfit.ensures c.in_ok-matches_refusal.ensures)
    (rw (c.jacobian.ensures.0, c.jacobian.ensures.1, ne_eqb _ _ c.if-jacobian-eq0.false, (rw c.unwrap-x.ensures at c.as_array.ensures.cases).same))
