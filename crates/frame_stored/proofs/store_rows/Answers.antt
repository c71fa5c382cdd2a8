-- `frame_stored::store_rows` meets its contract: after i turns the first i rows are written. Assumes nothing.
use Prim.Native.Nat.{◌+◌, ◌*◌, ◌≤◌}
use mathlib.Core.Path.{◌≡◌, refl}
use native.Mathlib.Omega.{arith}
use Rattle.transform_products.proofs.Laws.{row_fits, row_written, rows_none, rows_more}
use Rattle.frame_stored.proofs.Laws.{row_same}
use Rattle.frame_stored.proofs.store_rows.Goals as goal
use Rattle.frame_stored.proofs.store_rows.Goals.{In-loop-i}

-- a row ends within the numbers
fits : (c : In-loop-i) → let a = c.args in c.loop-i.i * a.stride + a.stride ≤ 90
fits c = row_fits c.loop-i.i c.args.stride (omega (arith, c.requires.0)) c.requires.1

pub store_row-requires : goal.store_row-requires
store_row-requires c =
    let pre = c.requires in
    (pre.0, omega (arith, fits (goal.at.store_row-requires c).In-loop-i, pre.2))

pub loop-i-preserved : goal.loop-i-preserved
loop-i-preserved c =
    let l = c.loop-i in
    let pre = c.requires in
    let fit = fits (goal.at.loop-i-preserved c).In-loop-i in
    let row = row_written _ _ _ _ l.i _ _ l.out _ (omega (arith, fit, pre.2, l.invariant.size)) (λ k h. row_same _ _ _ l.i k) refl c.store_row.ensures in
    rows_more _ _ _ l.i _ l.out _ (omega (arith, pre.0, c.loop-i-test.true)) pre.1 (omega (arith, pre.2)) (λ k h. refl) row l.invariant

pub returns : goal.returns
returns c =
    let l = c.loop-i in
    let e : l.i ≡ c.args.width = omega arith in
    rw e at l.invariant

pub loop-i-init : goal.loop-i-init
loop-i-init c = rows_none _ _ _ c.args.out.now (omega arith)

pub overflow_mul-base : goal.overflow_mul-base
overflow_mul-base c = omega (arith, fits c)

pub overflow_add-out : goal.overflow_add-out
overflow_add-out c = omega (arith, fits (goal.at.overflow_add-out c).In-loop-i, c.requires.2)

pub offset_bounds-out-base : goal.offset_bounds-out-base
offset_bounds-out-base c = omega (arith, fits (goal.at.offset_bounds-out-base c).In-loop-i, c.requires.2)

pub bounds-out-base : goal.bounds-out-base
bounds-out-base c = omega (arith, fits (goal.at.bounds-out-base c).In-loop-i, c.requires.2)
