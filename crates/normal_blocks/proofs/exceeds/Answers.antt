-- `normal_blocks::exceeds` meets its contract: the offset is compared with the room that the width leaves. Assumes nothing.
use Rattle.normal_blocks.specs.Map.{exceeds}
use Rattle.normal_blocks.proofs.Laws.{exceeds-wide, exceeds_room}
use Rattle.normal_blocks.proofs.exceeds.Goals as goal

pub returns-then-n-width : goal.returns-then-n-width
unfolding exceeds
returns-then-n-width c = rw c.in-Some.is (exceeds-wide _ _ _ c.if-n-width.true)

pub returns-else-n-width : goal.returns-else-n-width
unfolding exceeds
returns-else-n-width c = rw c.in-Some.is (exceeds_room _ _ _ c.if-n-width.false)

pub returns-in-None : goal.returns-in-None
unfolding exceeds
returns-in-None c = rw c.in-None.is
