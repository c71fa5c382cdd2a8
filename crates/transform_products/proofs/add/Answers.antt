-- `transform_products::add` meets its contract: after k turns the first k sums have grown. Assumes nothing.
use mathlib.Core.Path.{◌≡◌, refl}
use native.Mathlib.Omega.{arith}
use Rattle.transform_products.proofs.Laws.{raised_none, raised_more}
use Rattle.transform_products.proofs.add.Goals as goal

pub loop-k-preserved : goal.loop-k-preserved
loop-k-preserved c =
    let l = c.loop-k in
    raised_more _ _ _ _ l.k _ l.s _ (omega arith) refl l.invariant

pub returns : goal.returns
returns c =
    let l = c.loop-k in
    let e : l.k ≡ c.args.lanes = omega arith in
    rw e at l.invariant

pub loop-k-init : goal.loop-k-init
loop-k-init c = raised_none _ _ _ _ c.args.s.now (omega arith)
