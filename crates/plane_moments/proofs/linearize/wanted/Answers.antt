-- `plane_moments::linearize::wanted` meets its contract. Assumes nothing.
use borrow.Author.Tests.{eq-eqb, ne_eqb}
use Rattle.plane_moments.specs.Linearize.{wanted}
use Rattle.plane_moments.proofs.linearize.wanted.Goals as goal

pub returns-then-cells-eq0 : goal.returns-then-cells-eq0
unfolding wanted
returns-then-cells-eq0 c = rw (eq-eqb _ _ c.if-cells-eq0.true)

pub returns-else-cells-eq0 : goal.returns-else-cells-eq0
unfolding wanted
returns-else-cells-eq0 c = rw (ne_eqb _ _ c.if-cells-eq0.false)
