-- `plane::point_term` meets its contract: what the callees give, put together. Assumes nothing.
use Rattle.plane.specs.Sigma.{point_term}
use Rattle.plane.proofs.point_term.Goals as goal

pub returns : goal.returns
unfolding point_term
returns c =
    rw (
      c.dot3.ensures,
      c.vec_mat-v.ensures,
      c.transposed.ensures,
      c.vec_mat-u.ensures,
      c.vec_mat-t.ensures,
    )
