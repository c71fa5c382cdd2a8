-- `transform_products::left_row` meets its contract: after r turns the first r products are in each sum. Assumes nothing.
use mathlib.Core.Path.{◌≡◌, refl}
use native.Mathlib.Omega.{arith}
use Rattle.transform_products.proofs.Laws.{row_fits, sums_none, sums_first, sums_more}
use Rattle.transform_products.proofs.left_row.Goals as goal

pub returns-then-rows-eq0 : goal.returns-then-rows-eq0
returns-then-rows-eq0 c =
    let pre = c.requires in
    rw c.if-rows-eq0.true (sums_none _ (omega (arith, pre.1, pre.2)))

pub loop-r-init : goal.loop-r-init
loop-r-init c = sums_first _ _ _ _ _ _ _ refl c.start.ensures

pub add-requires : goal.add-requires
add-requires c =
    let l = c.loop-r in
    let fits = row_fits l.r c.args.stride (omega (arith, c.requires.0)) c.requires.1 in
    (omega (arith, c.requires.1, c.requires.2), omega (arith, fits, c.requires.2))

pub loop-r-preserved : goal.loop-r-preserved
loop-r-preserved c =
    let l = c.loop-r in
    sums_more _ _ _ _ _ l.r _ _ _ (omega arith) refl c.add.ensures l.invariant

pub returns : goal.returns
returns c =
    let l = c.loop-r in
    let e : l.r ≡ c.args.rows = omega arith in
    rw e at l.invariant

pub start-requires : goal.start-requires
start-requires c = omega (arith, c.requires.1, c.requires.2)

pub overflow_mul-r : goal.overflow_mul-r
overflow_mul-r c = omega (arith, row_fits c.loop-r.r c.args.stride (omega (arith, c.requires.0)) c.requires.1)
