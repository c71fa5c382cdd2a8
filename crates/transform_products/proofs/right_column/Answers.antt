-- `transform_products::right_column` meets its contract: after i turns the first i sums are there. Assumes nothing.
use native.Mathlib.Omega.{arith}
use borrow.Author.Rules.{rules}
use Rattle.sums.specs.Fill.{filling_none, filling_more, filling_all}
use Rattle.transform_products.proofs.Laws.{row_fits}
use Rattle.transform_products.proofs.right_column.Goals as goal

pub right_at-requires : goal.right_at-requires
right_at-requires c =
    (omega (arith, row_fits c.loop-i.i c.args.stride (omega (arith, c.requires.0)) c.requires.1, c.requires.2), c.requires.3)

pub loop-i-preserved : goal.loop-i-preserved
loop-i-preserved c =
    let l = c.loop-i in
    filling_more 9 _ _ l.column l.i _ (search rules) (search rules) c.right_at.ensures l.invariant

pub loop-i-init : goal.loop-i-init
loop-i-init c = filling_none 9 _ _

pub overflow_mul-i : goal.overflow_mul-i
overflow_mul-i c = omega (arith, row_fits c.loop-i.i c.args.stride (omega (arith, c.requires.0)) c.requires.1)

pub returns : goal.returns
returns c = filling_all 9 _ _ _ _ c.loop-i-test.false c.loop-i.invariant
