-- `transform_products::add_spaced` meets its contract: after i turns the first i numbers are added. Assumes nothing.
use mathlib.Core.Path.{refl}
use native.Mathlib.Omega.{arith}
use lib.ListN.{length-set}
use Rattle.terms.proofs.Laws.{upto-none, segment_more, segment_all}
use Rattle.transform_products.specs.Rows.{rows_of, spaced}
use Rattle.transform_products.proofs.Laws.{row_fits}
use Rattle.transform_products.proofs.add_spaced.Goals as goal

pub loop-i-preserved : goal.loop-i-preserved
unfolding spaced rows_of
loop-i-preserved c =
    let l = c.loop-i in
    (simp length-set l.invariant.0, segment_more _ _ _ _ l.i _ l.invariant.1 refl)

pub returns : goal.returns
returns c = segment_all _ _ _ _ c.loop-i.i _ (omega arith) c.loop-i.invariant.1

pub loop-i-init : goal.loop-i-init
loop-i-init c = (refl, upto-none _ _)

pub overflow_mul-g : goal.overflow_mul-g
overflow_mul-g c = omega (arith, row_fits c.loop-i.i c.args.stride (omega arith) c.requires.1)

pub overflow_add-g : goal.overflow_add-g
overflow_add-g c = omega (arith, row_fits c.loop-i.i c.args.stride (omega arith) c.requires.1)

pub offset_bounds-a-i : goal.offset_bounds-a-i
offset_bounds-a-i c = omega (arith, row_fits c.loop-i.i c.args.stride (omega arith) c.requires.1)

pub bounds-a-i : goal.bounds-a-i
bounds-a-i c = omega (arith, row_fits c.loop-i.i c.args.stride (omega arith) c.requires.1)
