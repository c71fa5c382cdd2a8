-- `plane::deviation` meets its contract: one test, and the root. Assumes nothing.
use mathlib.Core.Path.{sym, ◌∙◌}
use Rattle.plane.specs.Sigma.{deviation}
use Rattle.plane.proofs.deviation.Goals as goal

pub returns-then-not-is_positive : goal.returns-then-not-is_positive
unfolding deviation
returns-then-not-is_positive c = rw (sym c.is_positive.ensures ∙ c.if-not-is_positive.true)

pub returns : goal.returns
unfolding deviation
returns c =
    rw (c.sqrt.ensures, sym c.is_positive.ensures ∙ c.if-not-is_positive.false)
