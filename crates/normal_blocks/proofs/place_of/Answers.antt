-- `normal_blocks::place_of` meets its contract: a word below the unmapped one is a place. Assumes nothing.
use Rattle.normal_blocks.proofs.Laws.{place_at, place_unmapped}
use mathlib.Core.Path.{sym}
use Rattle.normal_blocks.proofs.place_of.Goals as goal

pub returns-then-w-lt-UNMAPPED : goal.returns-then-w-lt-UNMAPPED
returns-then-w-lt-UNMAPPED c = sym (place_at _ c.if-w-lt-UNMAPPED.true)

pub returns-else-w-lt-UNMAPPED : goal.returns-else-w-lt-UNMAPPED
returns-else-w-lt-UNMAPPED c = sym (place_unmapped _ c.if-w-lt-UNMAPPED.false)
