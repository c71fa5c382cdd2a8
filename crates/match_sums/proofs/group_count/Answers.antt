-- `match_sums::group_count` meets its contract: the result is the number of groups as it is defined. Assumes nothing.
use mathlib.Core.Path.{refl}
use Rattle.match_sums.proofs.group_count.Goals as goal

pub returns : goal.returns
returns c = refl
