-- `cards::writing::write_last` meets its contract: the numbers behind the whole groups are copied as they are. Assumes nothing.
use mathlib.Core.Path.{◌∙◌}
use Rattle.cards.specs.Card.{card_of}
use Rattle.cards.proofs.Carried.{copied, last_put, one_card, on_card}
use Rattle.cards.proofs.writing.write_last.Goals as goal

pub returns : goal.returns
returns c =
    let a = c.args in
    let l = a.moments.now in
    copied a.card.now l _ a.from c.copy_from_slice.ensures.after ∙ one_card l _ (card_of l) (last_put l a.card.now a.from c.requires.0 c.requires.1) (on_card l)
