-- `frame_pairs::dot` meets its contract: after r turns the first r products are summed. Assumes nothing.
use mathlib.Core.Path.{◌≡◌, sym}
use native.Mathlib.Nat.{add-zero}
use native.Mathlib.Omega.{arith}
use Rattle.sums.specs.Laws.{sum_to_more}
use Rattle.normal_blocks.specs.Target.{number_from}
use Rattle.frame_pairs.proofs.dot.Goals as goal

pub loop-r-init : goal.loop-r-init
unfolding number_from
loop-r-init c = rw add-zero

pub loop-r-preserved : goal.loop-r-preserved
unfolding number_from
loop-r-preserved c =
    let l = c.loop-r in
    rw l.invariant (sym (sum_to_more l.r _ l.auto.r))

pub returns : goal.returns
returns c =
    let l = c.loop-r in
    let e : l.r ≡ c.args.rows = omega arith in
    rw e at l.invariant
