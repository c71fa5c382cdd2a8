-- `plane_bundle::Points::fit_refusal` meets its contract: the tests in their order. Assumes nothing.
use mathlib.Core.Path.{sym, ap, ◌∙◌}
use mathlib.Core.Bool.{not}
use borrow.Author.Tests.{eq-eqb, ne_eqb}
use Rattle.plane_bundle.specs.Steps.{shape_refusal}
use Rattle.plane_bundle.proofs.Laws.{counts_by}
use Rattle.plane_bundle.proofs.Points.fit_refusal.Goals as goal

pub returns-then-is_empty : goal.returns-then-is_empty
unfolding shape_refusal
returns-then-is_empty c = rw (sym c.is_empty.ensures ∙ c.if-is_empty.true)

pub returns-then-bad : goal.returns-then-bad
unfolding shape_refusal
returns-then-bad c =
    rw (sym c.is_empty.ensures ∙ c.if-is_empty.false, sym c.bad.ensures ∙ c.if-bad.true)

pub returns-then-out-ne12 : goal.returns-then-out-ne12
unfolding shape_refusal
returns-then-out-ne12 c =
    rw (sym c.is_empty.ensures ∙ c.if-is_empty.false, sym c.bad.ensures ∙ c.if-bad.false, ne_eqb _ _ c.if-out-ne12.true)

pub returns : goal.returns
returns c =
    let a = c.args.self.now in
    c.count_refusal.ensures ∙ counts_by a.counts.now a.site.now a.fixed.now (sym c.bad.ensures ∙ c.if-bad.false) _ (ap not (eq-eqb _ _ c.if-out-ne12.false)) (sym c.is_empty.ensures ∙ c.if-is_empty.false)
