-- `bundle_rows::write_column` meets its contract: after i turns the first i cells of the column are written. Assumes nothing.
use Prim.Native.Nat.{◌+◌}
use mathlib.Core.Path.{◌∙◌, ◌≡◌}
use native.Mathlib.Omega.{arith}
use lib.ListN.{length}
use Rattle.bundle_rows.specs.Steps.{state_cell}
use Rattle.bundle_rows.proofs.Places.{Reached, reached}
use Rattle.bundle_rows.proofs.Cells.{put-cell, rows_none, rows_more}
use Rattle.bundle_rows.proofs.write_column.Goals as goal
use Rattle.bundle_rows.proofs.write_column.Goals.{In-loop-i}

-- the turn's cell is within the block
here : (t : In-loop-i) → let a = t.args in Reached a.columns.dof a.rows (a.from + t.loop-i.i) a.c (length a.columns.state.now) (length a.block.now)
here t = reached _ _ _ _ _ _ t.requires.1 (t.args.from + t.loop-i.i) t.args.c (omega (arith, t.loop-i-test.true)) t.requires.0

pub loop-i-preserved : goal.loop-i-preserved
loop-i-preserved c =
    let l = c.loop-i in
    let a = c.args in
    let f = state_cell a.columns.dof a.columns.state.now a.columns.n a.columns.info in
    (rows_more a.rows a.columns.dof f a.from l.i 1 a.c 1 _ _ _ l.invariant (put-cell a.rows a.columns.dof f (a.from + l.i) a.c _ l.block (l.invariant.size ∙ c.requires.1.whole) (here (goal.at.loop-i-preserved c).In-loop-i).row c.requires.0 c.cell.ensures))

pub returns : goal.returns
returns c =
    let all : c.loop-i.i ≡ c.args.count = omega arith in
    rw all at c.loop-i.invariant

pub loop-i-init : goal.loop-i-init
loop-i-init c = rows_none _ _ _ _ _ _ _

pub overflow_add-k : goal.overflow_add-k
overflow_add-k c = omega (arith, here c)

pub cell-requires : goal.cell-requires
cell-requires c = (here (goal.at.cell-requires c).In-loop-i).column

pub overflow_mul-block : goal.overflow_mul-block
overflow_mul-block c = omega (arith, here (goal.at.overflow_mul-block c).In-loop-i)

pub overflow_add-block : goal.overflow_add-block
overflow_add-block c = omega (arith, here (goal.at.overflow_add-block c).In-loop-i)

pub offset_bounds-block-c : goal.offset_bounds-block-c
offset_bounds-block-c c = omega (arith, here (goal.at.offset_bounds-block-c c).In-loop-i)

pub bounds-block-c : goal.bounds-block-c
bounds-block-c c = omega (arith, here (goal.at.bounds-block-c c).In-loop-i, c.loop-i.invariant.size)
