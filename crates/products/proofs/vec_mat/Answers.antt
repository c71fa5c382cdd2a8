-- `products::vec_mat` meets its contract: after c turns the first c numbers are there. Assumes nothing.
use mathlib.Core.Path.{◌∙◌}
use borrow.Author.Rules.{rules}
use Rattle.sums.specs.Fill.{filling_none, filling_more}
use Rattle.products.specs.Entry.{row_steps}
use Rattle.products.proofs.vec_mat.Goals as goal
use Rattle.products.proofs.vec_mat.Goals.{In-loop-c}

pub loop-c-preserved : goal.loop-c-preserved
loop-c-preserved c =
    let a = c.args in
    let l = c.loop-c in
    filling_more 9 _ _ l.row l.c _ (search rules) (search rules) (c.strided.ensures ∙ row_steps a.rows a.v.now a.m.now l.c) l.invariant

pub loop-c-init : goal.loop-c-init
loop-c-init c = filling_none 9 _ _
