-- `plane_moments::build::set_refusal` meets its contract: the tests in their order. Assumes nothing.
use mathlib.Core.Path.{◌≡◌, sym, ap, ◌∙◌}
use mathlib.Core.Bool.{true, false, not}
use borrow.Author.Rules.{rules}
use Rattle.refusals.specs.Number.{number}
use Rattle.refusals.specs.Refusal.{first_of}
use Rattle.refusals.proofs.Laws.{first-refused}
use Rattle.validate.specs.Finite.{finite_positive}
use Rattle.frame_sets.specs.Sets.{count_reasons}
use Rattle.plane_moments.proofs.Laws.{sets_in_parts}
use Rattle.plane_moments.proofs.build.set_refusal.Goals as goal

pub returns-in_err-counts : goal.returns-in_err-counts
returns-in_err-counts c =
    let a = c.args in
    let e : number c.from_residual.result ≡ number a.counts = search rules in
    sym (sets_in_parts _ _ _ ∙ first-refused _ _ _ (e ∙ c.requires.0) (search rules))

pub returns-then-not_finite : goal.returns-then-not_finite
returns-then-not_finite c =
    let none : first_of (count_reasons c.args.frames.now c.args.fixed.now) ≡ 0 = sym c.requires.0 ∙ ap number c.in_ok-counts.was in
    sym (sets_in_parts _ _ _ ∙ rw (none, sym c.not_finite.ensures ∙ c.if-not_finite.true))

pub returns-then-not-is_positive : goal.returns-then-not-is_positive
returns-then-not-is_positive c =
    let none : first_of (count_reasons c.args.frames.now c.args.fixed.now) ≡ 0 = sym c.requires.0 ∙ ap number c.in_ok-counts.was in
    let bad : not (finite_positive c.args.sigma) ≡ true = cc in
    sym (sets_in_parts _ _ _ ∙ rw (none, sym c.not_finite.ensures ∙ c.if-not_finite.false, bad))

pub returns : goal.returns
returns c =
    let none : first_of (count_reasons c.args.frames.now c.args.fixed.now) ≡ 0 = sym c.requires.0 ∙ ap number c.in_ok-counts.was in
    let good : not (finite_positive c.args.sigma) ≡ false = cc in
    sym (sets_in_parts _ _ _ ∙ rw (none, sym c.not_finite.ensures ∙ c.if-not_finite.false, good))
