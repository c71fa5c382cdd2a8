-- `counted_moments::merge_refusal` meets its contract: the test is the definition's. Assumes nothing.
use Rattle.counted_moments.specs.Counted.{merge_reasons}
use Rattle.counted_moments.proofs.merge_refusal.Goals as goal

pub returns-then-merge_saturates : goal.returns-then-merge_saturates
unfolding merge_reasons
returns-then-merge_saturates c = rw (← c.merge_saturates.ensures, c.if-merge_saturates.true)

pub returns : goal.returns
unfolding merge_reasons
returns c = rw (← c.merge_saturates.ensures, c.if-merge_saturates.false)
