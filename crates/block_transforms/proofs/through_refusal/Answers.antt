-- `block_transforms::through_refusal` meets its contract: the three tests in their order. Assumes nothing.
use mathlib.Core.Path.{sym, ◌∙◌}
use Rattle.block_transforms.specs.Reasons.{through_refusal}
use Rattle.block_transforms.proofs.through_refusal.Goals as goal

pub returns-then-bad_words : goal.returns-then-bad_words
unfolding through_refusal
returns-then-bad_words c = rw (sym c.bad_words.ensures ∙ c.if-bad_words.true)

pub returns-then-some_misfit : goal.returns-then-some_misfit
unfolding through_refusal
returns-then-some_misfit c =
    rw (sym c.bad_words.ensures ∙ c.if-bad_words.false, sym c.some_misfit.ensures ∙ c.if-some_misfit.true)

pub returns-then-some_exceeds : goal.returns-then-some_exceeds
unfolding through_refusal
returns-then-some_exceeds c =
    rw (
      sym c.bad_words.ensures ∙ c.if-bad_words.false,
      sym c.some_misfit.ensures ∙ c.if-some_misfit.false,
      sym c.some_exceeds.ensures ∙ c.if-some_exceeds.true,
    )

pub returns : goal.returns
unfolding through_refusal
returns c =
    rw (
      sym c.bad_words.ensures ∙ c.if-bad_words.false,
      sym c.some_misfit.ensures ∙ c.if-some_misfit.false,
      sym c.some_exceeds.ensures ∙ c.if-some_exceeds.false,
    )
