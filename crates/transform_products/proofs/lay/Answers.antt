-- `transform_products::lay` meets its contract: after i turns the first i rows are written. Assumes nothing.
use mathlib.Core.Path.{◌≡◌, refl}
use native.Mathlib.Omega.{arith}
use Rattle.transform_products.proofs.Laws.{row_written, rows_none, rows_more}
use Rattle.transform_products.proofs.lay.Goals as goal

pub lay_row-requires : goal.lay_row-requires
lay_row-requires c =
    let pre = c.requires in
    let here = c.loop-i-test.true in
    (pre, omega (arith, here, pre), omega (arith, here, pre))

pub loop-i-preserved : goal.loop-i-preserved
loop-i-preserved c =
    let l = c.loop-i in
    let pre = c.requires in
    let here = c.loop-i-test.true in
    let row = row_written _ _ _ _ l.i _ _ l.out _ (omega (arith, here, pre, l.invariant.size)) (λ k h. refl) refl c.lay_row.ensures in
    rows_more 10 _ _ l.i _ l.out _ (omega (arith, pre, here)) (omega arith) (omega (arith, pre)) (λ k h. refl) row l.invariant

pub returns : goal.returns
returns c =
    let l = c.loop-i in
    let e : l.i ≡ c.args.width = omega arith in
    rw e at l.invariant

pub loop-i-init : goal.loop-i-init
loop-i-init c = rows_none _ _ _ c.args.out.now (omega arith)
