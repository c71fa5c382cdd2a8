-- `cards::reading::read_last` meets its contract: the numbers behind the whole groups are copied as they are. Assumes nothing.
use mathlib.Core.Path.{◌∙◌}
use Rattle.cards.specs.Card.{list_of}
use Rattle.cards.proofs.Carried.{copied, last_read, one_list, off_card}
use Rattle.cards.proofs.reading.read_last.Goals as goal

pub returns : goal.returns
returns c =
    let a = c.args in
    let card = a.card.now in
    copied a.moments.now card _ a.from c.copy_from_slice.ensures.after ∙ one_list _ (list_of card) card (last_read a.moments.now card a.from c.requires.0 c.requires.1) (off_card card)
