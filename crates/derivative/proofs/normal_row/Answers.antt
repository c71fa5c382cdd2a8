-- `derivative::normal_row` meets its contract: after c turns the first c numbers are there. Assumes nothing.
use borrow.Author.Rules.{rules}
use Rattle.sums.specs.Fill.{filling_none, filling_more, filling_all}
use Rattle.derivative.specs.Derivative.{normal_row}
use Rattle.derivative.proofs.normal_row.Goals as goal

pub loop-c-preserved : goal.loop-c-preserved
unfolding normal_row
loop-c-preserved c =
    let l = c.loop-c in
    filling_more 9 _ _ l.row l.c _ (search rules) (search rules) c.normal_entry.ensures l.invariant

pub loop-c-init : goal.loop-c-init
loop-c-init c = filling_none 9 _ _

pub returns : goal.returns
returns c = filling_all 9 _ _ _ _ c.loop-c-test.false c.loop-c.invariant
