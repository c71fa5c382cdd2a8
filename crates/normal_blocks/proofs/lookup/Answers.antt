-- `normal_blocks::lookup` meets its contract: the place of the word inside the map, none past its end. Assumes nothing.
use mathlib.Core.Path.{◌∙◌}
use Rattle.normal_blocks.proofs.Laws.{lookup_inside, lookup-past}
use Rattle.normal_blocks.proofs.lookup.Goals as goal

pub returns-then-k-map : goal.returns-then-k-map
returns-then-k-map c = c.place_of.ensures ∙ lookup_inside _ _ c.if-k-map.true

pub returns-else-k-map : goal.returns-else-k-map
returns-else-k-map c = lookup-past _ _ c.if-k-map.false
