-- `match_rows::information_at` meets its contract. Assumes nothing.
use Rattle.match_rows.specs.Row.{information_at}
use Rattle.match_rows.proofs.information_at.Goals as goal

pub returns : goal.returns
unfolding information_at
returns c = rw (c.information.ensures, c.read.ensures)
