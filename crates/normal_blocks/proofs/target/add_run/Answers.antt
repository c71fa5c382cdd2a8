-- `normal_blocks::target::add_run` meets its contract: after r turns the first r numbers are added. Assumes nothing.
use mathlib.Core.Path.{refl}
use native.Mathlib.Omega.{arith}
use lib.ListN.{length-set}
use Rattle.terms.proofs.Laws.{upto-none, segment_more, segment_all}
use Rattle.normal_blocks.specs.Target.{number_from}
use Rattle.normal_blocks.proofs.target.add_run.Goals as goal

pub loop-r-init : goal.loop-r-init
loop-r-init c = (refl, upto-none _ _)

pub loop-r-preserved : goal.loop-r-preserved
unfolding number_from
loop-r-preserved c =
    let at = c.loop-r in
    (simp length-set at.invariant.0, segment_more _ _ _ _ at.r _ at.invariant.1 refl)

pub returns : goal.returns
returns c = segment_all _ _ _ _ c.loop-r.r _ (omega arith) c.loop-r.invariant.1
