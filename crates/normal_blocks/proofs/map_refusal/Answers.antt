-- `normal_blocks::map_refusal` meets its contract: the two tests in their order. Assumes nothing.
use mathlib.Core.Path.{sym, ◌∙◌}
use Rattle.normal_blocks.specs.Calls.{map_refusal}
use Rattle.normal_blocks.proofs.map_refusal.Goals as goal

pub returns-then-bad_words : goal.returns-then-bad_words
unfolding map_refusal
returns-then-bad_words c = rw (sym c.bad_words.ensures ∙ c.if-bad_words.true)

pub returns-then-some_exceeds : goal.returns-then-some_exceeds
unfolding map_refusal
returns-then-some_exceeds c =
    rw (sym c.bad_words.ensures ∙ c.if-bad_words.false, sym c.some_exceeds.ensures ∙ c.if-some_exceeds.true)

pub returns : goal.returns
unfolding map_refusal
returns c =
    rw (sym c.bad_words.ensures ∙ c.if-bad_words.false, sym c.some_exceeds.ensures ∙ c.if-some_exceeds.false)
