-- `exported_calls::read_and_written` meets its contract: the exported contracts of the two calls, and `read_then_write`. Assumes nothing.
use Rattle.cards.proofs.Restored.{read_then_write}
use Rattle.exported_calls.proofs.read_and_written.Goals as goal

pub returns : goal.returns
returns c =
    let d = c.maghnelt_card_read-read.ensures in
    let w = c.maghnelt_card_write-written.ensures in
    (d, w, λ n records same same'. read_then_write n _ _ _ _ _ _ _ records same same' d w)
