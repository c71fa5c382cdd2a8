-- `transform_products::left` meets its contract: after i turns the first i rows are written. Assumes nothing.
use Prim.Native.Nat.{◌+◌, ◌*◌, ◌≤◌}
use mathlib.Core.Path.{◌≡◌}
use native.Mathlib.Omega.{arith}
use Rattle.sums.specs.Fill.{column_ends}
use Rattle.transform_products.proofs.Laws.{row_fits, rows_none, rows_more, left_is}
use Rattle.transform_products.proofs.left.Goals as goal
use Rattle.transform_products.proofs.left.Goals.{In-loop-i}

-- a column of T ends within t, and a row within the numbers
ends : (c : In-loop-i) → let a = c.args in let i = c.loop-i.i in i * a.rows + a.rows ≤ a.cols * a.rows
ends c = column_ends c.args.rows c.args.cols c.loop-i.i c.loop-i-test.true

fits : (c : In-loop-i) → let a = c.args in let i = c.loop-i.i in i * a.stride + a.stride ≤ 90
fits c = row_fits c.loop-i.i c.args.stride (omega (arith, c.requires.1)) c.requires.2

pub left_row-s-requires : goal.left_row-s-requires
left_row-s-requires c =
    let pre = c.requires in
    (pre.0, pre.2, omega (arith, pre.3), omega (arith, ends c, pre.4))

pub write-requires : goal.write-requires
write-requires c =
    let pre = c.requires in
    (omega (arith, pre.0), omega (arith, fits (goal.at.write-requires c).In-loop-i, pre.3))

pub loop-i-preserved : goal.loop-i-preserved
loop-i-preserved c =
    let l = c.loop-i in
    let pre = c.requires in
    rows_more _ _ _ l.i _ _ _ (omega (arith, pre.1, c.loop-i-test.true)) pre.2 (omega (arith, pre.3)) (left_is _ _ _ _ _ _ l.i _ c.left_row-s.ensures) c.write.ensures l.invariant

pub returns : goal.returns
returns c =
    let l = c.loop-i in
    let e : l.i ≡ c.args.cols = omega arith in
    rw e at l.invariant

pub loop-i-init : goal.loop-i-init
loop-i-init c = rows_none _ _ _ c.args.out.now (omega arith)

pub overflow_mul-i : goal.overflow_mul-i
overflow_mul-i c = omega (arith, ends c, c.requires.4)

pub overflow_add-from : goal.overflow_add-from
overflow_add-from c = omega (arith, ends c, c.requires.4)

pub overflow_add-rows : goal.overflow_add-rows
overflow_add-rows c = omega (arith, c.requires.0)

pub overflow_mul-i-in-loop-i : goal.overflow_mul-i-in-loop-i
overflow_mul-i-in-loop-i c = omega (arith, fits (goal.at.overflow_mul-i-in-loop-i c).In-loop-i)

pub overflow_add-rows-in-loop-i : goal.overflow_add-rows-in-loop-i
overflow_add-rows-in-loop-i c = omega (arith, c.requires.0)
