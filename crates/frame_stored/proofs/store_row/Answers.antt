-- `frame_stored::store_row` meets its contract: after j turns the first j entries are written. Assumes nothing.
use mathlib.Core.Path.{refl}
use borrow.Author.Rules.{rules}
use Rattle.sums.specs.Fill.{writing_none, writing_more, writing_all}
use Rattle.frame_stored.specs.Stored.{row_entry}
use Rattle.frame_stored.proofs.store_row.Goals as goal

pub loop-j-preserved : goal.loop-j-preserved
unfolding row_entry
loop-j-preserved c =
    let l = c.loop-j in
    writing_more _ _ _ _ l.out l.j _ (search rules) (search rules) refl l.invariant

pub loop-j-init : goal.loop-j-init
loop-j-init c = writing_none _ _ _ _

pub returns : goal.returns
unfolding row_entry
returns c = writing_all _ _ _ _ _ _ c.loop-j-test.false c.loop-j.invariant
