-- `frame_pairs::left` meets its contract: after i turns the first i numbers are there. Assumes nothing.
use mathlib.Core.Path.{refl}
use native.Mathlib.Omega.{arith}
use borrow.Author.Rules.{rules}
use Rattle.sums.specs.Fill.{filling_none, filling_more, filling_all, column_ends}
use Rattle.frame_pairs.proofs.Products.{dot_is}
use Rattle.frame_pairs.proofs.left.Goals as goal

pub overflow_mul-i : goal.overflow_mul-i
overflow_mul-i c =
    let l = c.loop-i in
    let ends = column_ends c.args.rows c.args.cols l.i c.loop-i-test.true in
    omega (arith, ends, c.requires.3)

pub overflow_add-at : goal.overflow_add-at
overflow_add-at c =
    let l = c.loop-i in
    let ends = column_ends c.args.rows c.args.cols l.i c.loop-i-test.true in
    omega (arith, ends, c.requires.3)

pub dot-requires : goal.dot-requires
dot-requires c =
    let l = c.loop-i in
    let ends = column_ends c.args.rows c.args.cols l.i c.loop-i-test.true in
    (c.requires.0, c.requires.1, omega (arith, ends, c.requires.3))

pub loop-i-preserved : goal.loop-i-preserved
loop-i-preserved c =
    let l = c.loop-i in
    let x = c.args.x in
    filling_more 9 _ _ l.row l.i _ (search rules) (search rules) (dot_is _ x _ _ l.i _ refl c.dot.ensures) l.invariant

pub loop-i-init : goal.loop-i-init
loop-i-init c = filling_none 9 _ _

pub returns : goal.returns
returns c = filling_all 9 _ _ _ _ c.loop-i-test.false c.loop-i.invariant
