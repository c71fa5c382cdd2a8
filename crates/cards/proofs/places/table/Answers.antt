-- `cards::places::table` meets its contract: antt works out the list that the rule gives and compares it with the table, and `get_or-listed` gives the rule at
-- each entry. Assumes nothing.
use Prim.Native.Nat.{◌+◌, ◌*◌, ◌/◌, ◌%◌}
use mathlib.Core.Path.{◌≡◌, ◌∙◌}
use native.Mathlib.Omega.{arith}
use Rattle.point_moments.specs.Moments.{MOMENTS}
use Rattle.cards.specs.Card.{GROUPED, card_place, listed}
use Rattle.cards.proofs.Lists.{get_or-listed}
use Rattle.cards.proofs.places.table.Goals as goal

pub returns : goal.returns
unfolding listed
returns c f r h k =
    let i = MOMENTS * r + f in
    let e : card_place (i % MOMENTS) (i / MOMENTS) ≡ card_place f r = omega arith in
    get_or-listed GROUPED (λ i. card_place (i % MOMENTS) (i / MOMENTS)) i (omega arith) ∙ e
