-- `frame_segment::Rows::column` meets its contract: after i turns the first i numbers are there. Assumes nothing.
use mathlib.Core.Path.{refl}
use borrow.Author.Rules.{rules}
use Rattle.sums.specs.Fill.{filling_none, filling_more, filling_all}
use Rattle.derivative.specs.Derivative.{combined}
use Rattle.frame_segment.specs.Steps.{column_entry, rows_entry}
use Rattle.frame_segment.proofs.Rows.column.Goals as goal

pub loop-i-init : goal.loop-i-init
loop-i-init c = filling_none 9 _ _

pub loop-i-preserved : goal.loop-i-preserved
unfolding rows_entry column_entry combined
loop-i-preserved c =
    let l = c.loop-i in
    filling_more 9 _ _ l.column l.i _ (search rules) (search rules) refl l.invariant

pub returns : goal.returns
returns c = filling_all 9 _ _ _ _ c.loop-i-test.false c.loop-i.invariant
