-- `frame_sets::is_dropped` meets its contract: none, or by the set's count. Assumes nothing.
use Rattle.frame_sets.specs.Steps.{dropped-none, dropped-some}
use Rattle.frame_sets.proofs.is_dropped.Goals as goal

pub returns-then-fixed-eq0 : goal.returns-then-fixed-eq0
returns-then-fixed-eq0 c = dropped-none _ c.if-fixed-eq0.true

pub returns : goal.returns
returns c = rw c.from_list-m.ensures (dropped-some _ c.if-fixed-eq0.false)
