-- `plane_moments::linearize::bad_decompositions` meets its contract: with a fixed set or without. Assumes nothing.
use borrow.Author.Tests.{eq-eqb, ne_eqb}
use Rattle.plane_moments.specs.Linearize.{bad_decompositions}
use Rattle.plane_moments.proofs.linearize.bad_decompositions.Goals as goal

pub returns-then-fixed-eq0 : goal.returns-then-fixed-eq0
unfolding bad_decompositions
returns-then-fixed-eq0 c = rw (eq-eqb _ _ c.if-fixed-eq0.true)

pub returns : goal.returns
unfolding bad_decompositions
returns c = rw (ne_eqb _ _ c.if-fixed-eq0.false)
