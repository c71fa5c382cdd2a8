-- `plane_bundle::Points::count_refusal` meets its contract: the two tests in their order. Assumes nothing.
use mathlib.Core.Path.{sym, ◌∙◌}
use borrow.Author.Tests.{lt-ltb, le-ltb}
use Rattle.plane_bundle.specs.Steps.{count_refusal}
use Rattle.plane_bundle.proofs.Points.count_refusal.Goals as goal

pub returns-then-some_empty : goal.returns-then-some_empty
unfolding count_refusal
returns-then-some_empty c = rw (sym c.some_empty.ensures ∙ c.if-some_empty.true)

pub returns-then-self-lt3 : goal.returns-then-self-lt3
unfolding count_refusal
returns-then-self-lt3 c = rw (sym c.some_empty.ensures ∙ c.if-some_empty.false, lt-ltb _ _ c.if-self-lt3.true)

pub returns : goal.returns
unfolding count_refusal
returns c = rw (sym c.some_empty.ensures ∙ c.if-some_empty.false, le-ltb _ _ c.if-self-lt3.false)
