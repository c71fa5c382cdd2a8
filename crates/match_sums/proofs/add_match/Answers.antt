-- `match_sums::add_match` meets its contract. Assumes nothing.
use mathlib.Core.Path.{refl}
use Rattle.sums.specs.Laws.{get_or-tab}
use Rattle.match_sums.specs.Laws.{added_same}
use Rattle.match_sums.proofs.add_match.Goals as goal

pub returns : goal.returns
returns g c =
    added_same _ _ _ _ _ _ _ _ _ (λ i l. rw c.row_at-row.ensures (get_or-tab g.row.W _ i l)) refl c.add_row.ensures
