-- `moment_matrices::symmetric` meets its contract: what the callees give, put together. Assumes nothing.
use Rattle.moment_matrices.proofs.symmetric.Goals as goal

pub returns : goal.returns
returns c = rw (c.scaled.ensures, c.plus.ensures, c.transposed.ensures)
