-- `moment_matrices::moved_outer` meets its contract: what the callees give, put together. Assumes nothing.
use Rattle.moment_matrices.specs.Matrices.{moved_outer}
use Rattle.moment_matrices.proofs.moved_outer.Goals as goal

pub returns : goal.returns
unfolding moved_outer
returns c =
    rw (
      c.plus.ensures,
      c.outer_scaled.ensures,
      c.plus-both.ensures,
      c.outer3-2.ensures,
      c.plus-turned.ensures,
      c.outer3.ensures,
      c.congruent.ensures,
    )
