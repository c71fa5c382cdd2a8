-- `products::column` meets its contract: after r turns the first r numbers are there. Assumes nothing.
use mathlib.Core.Path.{◌∙◌}
use borrow.Author.Rules.{rules}
use Rattle.sums.specs.Fill.{filling_none, filling_more}
use Rattle.products.specs.Entry.{column_steps}
use Rattle.products.proofs.column.Goals as goal

pub loop-r-preserved : goal.loop-r-preserved
loop-r-preserved c =
    let a = c.args in
    let l = c.loop-r in
    filling_more 9 _ _ l.column l.r _ (search rules) (search rules) (c.strided.ensures ∙ column_steps a.rows a.inner a.a.now a.b.now a.from l.r) l.invariant

pub loop-r-init : goal.loop-r-init
loop-r-init c = filling_none 9 _ _
