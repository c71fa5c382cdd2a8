-- `match_rows::entry` meets its contract: the result is the row's number as it is defined. Assumes nothing.
use mathlib.Core.Path.{refl}
use Rattle.match_rows.proofs.entry.Goals as goal

pub returns : goal.returns
returns c = refl
