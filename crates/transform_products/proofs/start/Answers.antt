-- `transform_products::start` meets its contract: after k turns the first k numbers are there. Assumes nothing.
use mathlib.Core.Path.{◌≡◌, refl}
use native.Mathlib.Nat.{not-suc-le-zero}
use native.Mathlib.Omega.{arith}
use lib.ListN.{length-set}
use Rattle.sums.specs.Fill.{first_more}
use Rattle.transform_products.proofs.start.Goals as goal

pub loop-k-preserved : goal.loop-k-preserved
loop-k-preserved c =
    let l = c.loop-k in
    (simp length-set l.invariant.0, first_more l.s _ l.k _ (omega arith) refl l.invariant.1)

pub returns : goal.returns
returns c =
    let l = c.loop-k in
    let e : l.k ≡ c.args.lanes = omega arith in
    record { are = rw e at l.invariant.1; size = l.invariant.0 }

pub loop-k-init : goal.loop-k-init
loop-k-init c = (omega arith, λ i l. absurd (not-suc-le-zero l))
