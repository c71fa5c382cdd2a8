-- `frame_segment::add_column` meets its contract: after i turns the first i numbers are added. Assumes nothing.
use mathlib.Core.Path.{refl}
use native.Mathlib.Omega.{arith}
use lib.ListN.{length-set}
use Rattle.terms.proofs.Laws.{upto-none, segment_more, segment_all}
use Rattle.derivative.specs.Derivative.{combined}
use Rattle.frame_segment.specs.Steps.{column_entry}
use Rattle.frame_segment.proofs.add_column.Goals as goal

pub loop-i-init : goal.loop-i-init
loop-i-init c = (refl, upto-none _ _)

pub loop-i-preserved : goal.loop-i-preserved
unfolding column_entry combined
loop-i-preserved c =
    let at = c.loop-i in
    (simp length-set at.invariant.0, segment_more _ _ _ _ at.i _ at.invariant.1 refl)

pub returns : goal.returns
unfolding column_entry combined
returns c = segment_all _ _ _ _ c.loop-i.i _ (omega arith) c.loop-i.invariant.1
