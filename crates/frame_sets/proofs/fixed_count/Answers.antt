-- `frame_sets::fixed_count` meets its contract: nothing, or the set's count. Assumes nothing.
use Rattle.frame_sets.specs.Steps.{count_none, count_some}
use Rattle.frame_sets.proofs.fixed_count.Goals as goal

pub returns-then-fixed-eq0 : goal.returns-then-fixed-eq0
returns-then-fixed-eq0 c = count_none _ c.if-fixed-eq0.true

pub returns : goal.returns
returns c = rw c.from_list-m.ensures (count_some c.args.fixed.now c.if-fixed-eq0.false)
