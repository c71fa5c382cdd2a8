-- `bundle_rows::put_row` meets its contract: after e turns the first e cells are written. Assumes nothing.
use Prim.Native.Nat.{◌<◌, ◌+◌}
use mathlib.Core.Path.{◌≡◌, ◌∙◌}
use native.Mathlib.Omega.{arith}
use lib.ListN.{length}
use Rattle.bundle_rows.specs.Steps.{state_cell}
use Rattle.bundle_rows.proofs.Places.{Reached, reached}
use Rattle.bundle_rows.proofs.Cells.{put-cell, columns-none, columns_more}
use Rattle.bundle_rows.proofs.put_row.Goals as goal
use Rattle.bundle_rows.proofs.put_row.Goals.{In-loop-e}

-- the turn's cell is within the block
here : (t : In-loop-e) → let a = t.args in Reached a.columns.dof a.rows a.k (a.c + t.loop-e.e) (length a.columns.state.now) (length a.block.now)
here t = reached _ _ _ _ _ _ t.requires.1 t.args.k (t.args.c + t.loop-e.e) (omega arith) (omega (arith, t.loop-e-test.true, t.requires.0))

narrow : (t : In-loop-e) → t.args.c + t.loop-e.e < 9
narrow t = omega (arith, t.loop-e-test.true, t.requires.0, t.requires.1.narrow)

pub loop-e-preserved : goal.loop-e-preserved
loop-e-preserved c =
    let l = c.loop-e in
    let a = c.args in
    let f = state_cell a.columns.dof a.columns.state.now a.columns.n a.columns.info in
    (columns_more a.rows a.columns.dof f a.k 1 a.c l.e 1 _ _ _ l.invariant (put-cell a.rows a.columns.dof f a.k (a.c + l.e) _ l.block (l.invariant.size ∙ c.requires.1.whole) (here (goal.at.loop-e-preserved c).In-loop-e).row (omega (arith, c.loop-e-test.true, c.requires.0)) c.cell.ensures))

pub returns : goal.returns
returns c =
    let all : c.loop-e.e ≡ c.args.w = omega arith in
    rw all at c.loop-e.invariant

pub loop-e-init : goal.loop-e-init
loop-e-init c = columns-none _ _ _ _ _ _ _

pub overflow_add-c : goal.overflow_add-c
overflow_add-c c = omega (arith, narrow c)

pub cell-requires : goal.cell-requires
cell-requires c = (here (goal.at.cell-requires c).In-loop-e).column

pub overflow_add-block : goal.overflow_add-block
overflow_add-block c = omega (arith, narrow (goal.at.overflow_add-block c).In-loop-e)

pub overflow_mul-block : goal.overflow_mul-block
overflow_mul-block c = omega (arith, here (goal.at.overflow_mul-block c).In-loop-e)

pub overflow_add-block-in-loop-e : goal.overflow_add-block-in-loop-e
overflow_add-block-in-loop-e c = omega (arith, here (goal.at.overflow_add-block-in-loop-e c).In-loop-e)

pub offset_bounds-block-c : goal.offset_bounds-block-c
offset_bounds-block-c c = omega (arith, here (goal.at.offset_bounds-block-c c).In-loop-e)

pub bounds-block-c : goal.bounds-block-c
bounds-block-c c = omega (arith, here (goal.at.bounds-block-c c).In-loop-e, c.loop-e.invariant.size)
