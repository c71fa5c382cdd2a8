-- `plane::plane_term` meets its contract: seven sums of six products, put together. Assumes nothing.
use Rattle.plane.specs.Sigma.{plane_term}
use Rattle.plane.proofs.plane_term.Goals as goal

pub returns : goal.returns
unfolding plane_term
returns c =
    rw (
      c.dot6-7.ensures,
      c.dot6-6.ensures,
      c.dot6-5.ensures,
      c.dot6-4.ensures,
      c.dot6-3.ensures,
      c.dot6-2.ensures,
      c.dot6.ensures,
    )
