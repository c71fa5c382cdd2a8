-- `cards::places::place` meets its contract: the table's rule at its entry. Assumes nothing.
use mathlib.Core.Path.{◌≡◌, ◌∙◌}
use Rattle.cards.proofs.places.place.Goals as goal

pub returns : goal.returns
returns c = c.from.ensures ∙ c.table.ensures c.args.f c.args.r c.requires.0 c.requires.1
