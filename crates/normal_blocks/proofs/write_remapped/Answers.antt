-- `normal_blocks::write_remapped` meets its contract: after k turns the first k words are those of the remapped map. Assumes nothing.
use native.Mathlib.Omega.{arith}
use mathlib.Core.Path.{◌≡◌}
use lib.ListN.{length, length-set}
use Rattle.normal_blocks.proofs.Laws.{remapped_more, remapped_all}
use Rattle.normal_blocks.proofs.write_remapped.Goals as goal

pub loop-k-preserved : goal.loop-k-preserved
loop-k-preserved c =
    let at = c.loop-k in
    (simp length-set at.invariant.0, remapped_more _ _ _ _ _ at.invariant.0 c.loop-k-test.true c.word_at.ensures at.invariant.1)

pub returns : goal.returns
returns c =
    let at = c.loop-k in
    let e : at.k ≡ length c.args.list.now = omega arith in
    remapped_all _ _ _ at.invariant.0 (rw e at at.invariant.1)
