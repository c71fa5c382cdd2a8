-- `frame_pairs::add_numbers` meets its contract: after i turns the first i numbers are added. Assumes nothing.
use mathlib.Core.Path.{refl}
use native.Mathlib.Omega.{arith}
use lib.ListN.{length-set}
use Rattle.terms.proofs.Laws.{upto-none, segment_more, segment_all}
use Rattle.frame_pairs.specs.Pairs.{lane}
use Rattle.frame_pairs.proofs.add_numbers.Goals as goal

pub loop-i-preserved : goal.loop-i-preserved
unfolding lane
loop-i-preserved c =
    let l = c.loop-i in
    (simp length-set l.invariant.0, segment_more _ _ _ _ l.i _ l.invariant.1 refl)

pub returns : goal.returns
returns c = segment_all _ _ _ _ c.loop-i.i _ (omega arith) c.loop-i.invariant.1

pub loop-i-init : goal.loop-i-init
loop-i-init c = (refl, upto-none _ _)
