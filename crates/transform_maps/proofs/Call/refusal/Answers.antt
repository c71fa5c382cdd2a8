-- `transform_maps::Call::refusal` meets its contract: the tests in their order. Assumes nothing.
use mathlib.Core.Path.{sym, ◌∙◌}
use borrow.Author.Tests.{lt-ltb, le-ltb}
use Rattle.transform_maps.specs.Multiply.{transform_refusal}
use Rattle.transform_maps.proofs.Call.refusal.Goals as goal

pub returns-then-self-gt-MOST_DOF : goal.returns-then-self-gt-MOST_DOF
unfolding transform_refusal
returns-then-self-gt-MOST_DOF c = rw (lt-ltb _ _ c.if-self-gt-MOST_DOF.true)

pub returns-then-bad_slices : goal.returns-then-bad_slices
unfolding transform_refusal
returns-then-bad_slices c = rw (le-ltb _ _ c.if-self-gt-MOST_DOF.false, sym c.bad_slices.ensures ∙ c.if-bad_slices.true)

pub returns-then-bad_words : goal.returns-then-bad_words
unfolding transform_refusal
returns-then-bad_words c = rw (le-ltb _ _ c.if-self-gt-MOST_DOF.false, sym c.bad_slices.ensures ∙ c.if-bad_slices.false, sym c.bad_words.ensures ∙ c.if-bad_words.true)

pub returns-then-some_wide : goal.returns-then-some_wide
unfolding transform_refusal
returns-then-some_wide c =
    rw (
      le-ltb _ _ c.if-self-gt-MOST_DOF.false,
      sym c.bad_slices.ensures ∙ c.if-bad_slices.false,
      sym c.bad_words.ensures ∙ c.if-bad_words.false,
      sym c.some_wide.ensures ∙ c.if-some_wide.true,
    )

pub returns-then-bad_further : goal.returns-then-bad_further
unfolding transform_refusal
returns-then-bad_further c =
    rw (
      le-ltb _ _ c.if-self-gt-MOST_DOF.false,
      sym c.bad_slices.ensures ∙ c.if-bad_slices.false,
      sym c.bad_words.ensures ∙ c.if-bad_words.false,
      sym c.some_wide.ensures ∙ c.if-some_wide.false,
      ← c.new.ensures,
      ← c.old.ensures,
      sym c.bad_further.ensures ∙ c.if-bad_further.true,
    )

pub returns : goal.returns
unfolding transform_refusal
returns c =
    rw (
      le-ltb _ _ c.if-self-gt-MOST_DOF.false,
      sym c.bad_slices.ensures ∙ c.if-bad_slices.false,
      sym c.bad_words.ensures ∙ c.if-bad_words.false,
      sym c.some_wide.ensures ∙ c.if-some_wide.false,
      ← c.new.ensures,
      ← c.old.ensures,
      sym c.bad_further.ensures ∙ c.if-bad_further.false,
    )
