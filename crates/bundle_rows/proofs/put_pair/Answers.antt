-- `bundle_rows::put_pair` meets its contract: one cell, and the one below it. Assumes nothing.
use Prim.Native.Nat.{◌+◌, ◌*◌}
use mathlib.Core.Path.{◌≡◌, ◌∙◌}
use native.Mathlib.Omega.{arith}
use lib.ListN.{length, length-set}
use Rattle.bundle_rows.specs.Steps.{state_cell}
use Rattle.bundle_rows.proofs.Places.{Reached, reached}
use Rattle.bundle_rows.proofs.Cells.{put-cell, rows_more}
use Rattle.bundle_rows.proofs.put_pair.Goals as goal
use Rattle.bundle_rows.proofs.put_pair.Goals.{Start}

-- the two cells are within the block
upper : (s : Start) → Reached s.args.columns.dof s.args.rows s.args.k s.args.c (length s.args.columns.state.now) (length s.args.block.now)
upper s = reached _ _ _ _ _ _ s.requires.1 s.args.k s.args.c (omega arith) s.requires.0

lower : (s : Start) → Reached s.args.columns.dof s.args.rows (s.args.k + 1) s.args.c (length s.args.columns.state.now) (length s.args.block.now)
lower s = reached _ _ _ _ _ _ s.requires.1 (s.args.k + 1) s.args.c (omega arith) s.requires.0

pub returns : goal.returns
returns c =
    let s = (goal.at.returns c).Start in
    let a = c.args in
    let whole = c.requires.1.whole in
    let f = state_cell a.columns.dof a.columns.state.now a.columns.n a.columns.info in
    let place : a.c * a.rows + a.k + 1 ≡ a.c * a.rows + (a.k + 1) = omega arith in
    let one = put-cell a.rows a.columns.dof f a.k a.c _ a.block.now whole (upper s).row c.requires.0 c.cell-upper.ensures in
    rw place (rows_more a.rows a.columns.dof f a.k 1 1 a.c 1 _ _ _ one (put-cell a.rows a.columns.dof f (a.k + 1) a.c _ _ (one.size ∙ whole) (lower s).row c.requires.0 c.cell-lower.ensures))

pub cell-upper-requires : goal.cell-upper-requires
cell-upper-requires c = (upper (goal.at.cell-upper-requires c).Start).column

pub overflow_add-k : goal.overflow_add-k
overflow_add-k c = omega (arith, lower (goal.at.overflow_add-k c).Start)

pub cell-lower-requires : goal.cell-lower-requires
cell-lower-requires c = (lower (goal.at.cell-lower-requires c).Start).column

pub overflow_mul-at : goal.overflow_mul-at
overflow_mul-at c = omega (arith, upper (goal.at.overflow_mul-at c).Start)

pub overflow_add-at : goal.overflow_add-at
overflow_add-at c = omega (arith, upper (goal.at.overflow_add-at c).Start)

pub offset_bounds-block-at : goal.offset_bounds-block-at
offset_bounds-block-at c = omega (arith, upper (goal.at.offset_bounds-block-at c).Start)

pub bounds-block-at : goal.bounds-block-at
bounds-block-at c = omega (arith, upper (goal.at.bounds-block-at c).Start)

pub overflow_add-block : goal.overflow_add-block
overflow_add-block c = omega (arith, lower (goal.at.overflow_add-block c).Start)

pub offset_bounds-block-at-2 : goal.offset_bounds-block-at-2
offset_bounds-block-at-2 c = omega (arith, lower (goal.at.offset_bounds-block-at-2 c).Start)

pub bounds-block-at-2 : goal.bounds-block-at-2
bounds-block-at-2 c = omega (arith, lower (goal.at.bounds-block-at-2 c).Start, length-set c.args.block.now (c.args.c * c.args.rows + c.args.k) c.cell-upper.result)
