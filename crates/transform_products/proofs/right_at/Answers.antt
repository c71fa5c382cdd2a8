-- `transform_products::right_at` meets its contract: after k turns the first k products are summed. Assumes nothing.
use mathlib.Core.Path.{◌≡◌, sym}
use native.Mathlib.Nat.{add-zero}
use native.Mathlib.Omega.{arith}
use Rattle.sums.specs.Laws.{sum_to_more}
use Rattle.normal_blocks.specs.Target.{number_from}
use Rattle.transform_products.proofs.right_at.Goals as goal

pub loop-k-init : goal.loop-k-init
unfolding number_from
loop-k-init c = rw (add-zero, add-zero)

pub loop-k-preserved : goal.loop-k-preserved
unfolding number_from
loop-k-preserved c =
    let l = c.loop-k in
    rw l.invariant (sym (sum_to_more l.k _ (omega arith)))

pub returns-then-count-eq0 : goal.returns-then-count-eq0
returns-then-count-eq0 c = rw c.if-count-eq0.true

pub returns : goal.returns
returns c =
    let l = c.loop-k in
    let e : l.k ≡ c.args.count = omega arith in
    rw e at l.invariant
