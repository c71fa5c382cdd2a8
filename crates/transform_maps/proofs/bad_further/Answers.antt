-- `transform_maps::bad_further` meets its contract. Assumes nothing.
use mathlib.Core.Path.{sym, ◌∙◌}
use Rattle.transform_maps.specs.Multiply.{bad_further}
use Rattle.transform_maps.proofs.bad_further.Goals as goal

pub returns-then-misfit : goal.returns-then-misfit
unfolding bad_further
returns-then-misfit c = rw (c.in-Some.is, sym c.misfit.ensures ∙ c.if-misfit.true)

pub returns-else-misfit : goal.returns-else-misfit
unfolding bad_further
returns-else-misfit c = rw (c.in-Some.is, sym c.misfit.ensures ∙ c.if-misfit.false) c.unchained.ensures

pub returns-in-None : goal.returns-in-None
unfolding bad_further
returns-in-None c = rw c.in-None.is
