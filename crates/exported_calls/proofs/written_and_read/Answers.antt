-- `exported_calls::written_and_read` meets its contract: the exported contracts of the two calls, and `write_then_read`. Assumes nothing.
use Rattle.cards.proofs.Restored.{write_then_read}
use Rattle.exported_calls.proofs.written_and_read.Goals as goal

pub returns : goal.returns
returns c =
    let w = c.maghnelt_card_write-written.ensures in
    let d = c.maghnelt_card_read-read.ensures in
    (w, d, λ n records same same'. write_then_read n _ _ _ _ _ _ _ records same same' w d)
