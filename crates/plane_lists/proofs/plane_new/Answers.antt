-- `plane_lists::plane_new` meets its contract: the lengths, then the answer of `plane::Plane::new`. Assumes nothing.
use mathlib.Core.Path.{sym, ◌∙◌}
use borrow.Author.Tests.{eq-eqb, ne_eqb}
use Rattle.refusals.specs.Refusal.{refused}
use Rattle.refusals.proofs.Exits.{handed_on}
use Rattle.plane_lists.specs.Calls.{new_refusal}
use Rattle.plane_lists.proofs.Laws.{new-refused, new-made}
use Rattle.plane_lists.proofs.plane_new.Goals as goal

pub returns-in_default : goal.returns-in_default
unfolding new_refusal
returns-in_default c = refused (rw (ne_eqb _ _ c.in_default.ensures.cases))

pub returns-then-plane-ne-PLANE : goal.returns-then-plane-ne-PLANE
unfolding new_refusal
returns-then-plane-ne-PLANE c =
    refused (rw (eq-eqb _ _ c.in-Some.ensures.cases.long, ne_eqb _ _ c.if-plane-ne-PLANE.true))

pub returns-in_err-new : goal.returns-in_err-new
returns-in_err-new c =
    let n = c.in-Some.ensures.cases in
    handed_on c.from_residual.result _ c.from_residual.ensures.1
    (new-refused _ _ _ (eq-eqb _ _ n.long) (eq-eqb _ _ c.if-plane-ne-PLANE.false) _ (rw n.same at (sym c.in_err-new.was ∙ c.new.ensures)))

pub returns : goal.returns
returns c =
    let n = c.in-Some.ensures.cases in
    rw (c.copy_from_slice.ensures.after, c.into-numbers.ensures)
    (new-made _ _ _ (eq-eqb _ _ n.long) (eq-eqb _ _ c.if-plane-ne-PLANE.false) _ (rw n.same at (sym c.in_ok-new.was ∙ c.new.ensures)))
