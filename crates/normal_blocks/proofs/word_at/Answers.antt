-- `normal_blocks::word_at` meets its contract: the word at the place that the word names, and unmapped past the end and for a word without a place. Assumes nothing.
use Rattle.normal_blocks.specs.Map.{word_at}
use Rattle.normal_blocks.proofs.Laws.{word_inside, word_past}
use Rattle.normal_blocks.proofs.word_at.Goals as goal

pub returns-then-k-map : goal.returns-then-k-map
returns-then-k-map c =
    rw (← c.in-Some.ensures) (word_inside _ _ c.if-k-map.true)

pub returns-else-k-map : goal.returns-else-k-map
returns-else-k-map c =
    rw (← c.in-Some.ensures) (word_past _ _ c.if-k-map.false)

pub returns-in-None : goal.returns-in-None
unfolding word_at
returns-in-None c = rw (← c.in-None.ensures)
