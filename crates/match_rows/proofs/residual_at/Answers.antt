-- `match_rows::residual_at` meets its contract. Assumes nothing.
use Rattle.match_rows.specs.Row.{residual_at}
use Rattle.match_rows.proofs.residual_at.Goals as goal

pub returns : goal.returns
unfolding residual_at
returns c = rw (c.residual.ensures, c.information.ensures, c.read-m.ensures)
