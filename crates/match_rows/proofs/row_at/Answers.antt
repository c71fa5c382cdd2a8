-- `match_rows::row_at` meets its contract. Assumes nothing.
use Rattle.match_rows.specs.ByRows.{row_by_at}
use Rattle.match_rows.proofs.row_at.Goals as goal

pub returns : goal.returns
unfolding row_by_at
returns g c = rw (c.row.ensures, c.read.ensures)
