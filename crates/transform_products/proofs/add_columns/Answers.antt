-- `transform_products::add_columns` meets its contract: after j turns the first j columns are added. Assumes nothing.
use Prim.Native.Nat.{◌+◌, ◌*◌, ◌≤◌}
use mathlib.Core.Path.{refl, ◌∙◌}
use native.Mathlib.Omega.{arith}
use Rattle.sums.specs.Fill.{column_ends}
use Rattle.terms.proofs.Laws.{upto-none, block_more, block_all, column-before}
use Rattle.transform_products.proofs.Laws.{column_added, right_size}
use Rattle.transform_products.proofs.add_columns.Goals as goal
use Rattle.transform_products.proofs.add_columns.Goals.{In-loop-j}

-- a column of T ends within t, and the column that is added within the Hessian
ends : (c : In-loop-j) → let a = c.args in let j = c.loop-j.j in j * a.rows + a.rows ≤ a.cols * a.rows
ends c = column_ends c.args.rows c.args.cols c.loop-j.j c.loop-j-test.true

inside : (c : In-loop-j) → let a = c.args in (a.at + c.loop-j.j) * a.n + a.n ≤ a.n * a.n
inside c = column-before _ _ _ (omega arith)

pub right_column-column-requires : goal.right_column-column-requires
right_column-column-requires c =
    let pre = c.requires in
    (pre.0, pre.1, pre.2, omega (arith, ends c, pre.3))

pub add_run-requires : goal.add_run-requires
add_run-requires c =
    let pre = c.requires in
    (omega (arith, inside (goal.at.add_run-requires c).In-loop-j, pre.4, pre.5, c.loop-j.invariant.0), omega (arith, right_size _ _ _ pre.0 c.right_column-column.ensures, pre.0))

pub loop-j-preserved : goal.loop-j-preserved
loop-j-preserved c =
    let l = c.loop-j in
    let a = c.args in
    (c.add_run.auto.h ∙ l.invariant.0, block_more _ l.h _ _ _ _ _ l.j l.invariant.1 (column_added a.n a.at a.rows a.cols a.stride a.t.now a.from a.u.now l.j _ l.h _ c.right_column-column.ensures c.add_run.ensures))

pub returns : goal.returns
returns c = block_all _ _ _ _ _ c.loop-j.j _ (omega arith) c.loop-j.invariant.1

pub loop-j-init : goal.loop-j-init
loop-j-init c = (refl, upto-none _ _)

pub overflow_mul-j : goal.overflow_mul-j
overflow_mul-j c = omega (arith, ends c, c.requires.3)

pub overflow_add-from : goal.overflow_add-from
overflow_add-from c = omega (arith, ends c, c.requires.3)

pub overflow_mul-base : goal.overflow_mul-base
overflow_mul-base c = omega (arith, inside (goal.at.overflow_mul-base c).In-loop-j)

pub overflow_add-base-in-loop-j : goal.overflow_add-base-in-loop-j
overflow_add-base-in-loop-j c = omega (arith, inside (goal.at.overflow_add-base-in-loop-j c).In-loop-j)
