-- `frame_pairs::right` meets its contract: after i turns the first i numbers are there. Assumes nothing.
use mathlib.Core.Path.{refl}
use native.Mathlib.Nat.{add-zero}
use borrow.Author.Rules.{rules}
use Rattle.sums.specs.Fill.{filling_none, filling_more, filling_all}
use Rattle.normal_blocks.specs.Target.{number_from}
use Rattle.frame_pairs.proofs.right.Goals as goal

pub loop-i-preserved : goal.loop-i-preserved
loop-i-preserved c =
    let l = c.loop-i in
    filling_more 9 _ _ l.column l.i _ (search rules) (search rules) refl l.invariant

pub returns : goal.returns
unfolding number_from
returns c = rw add-zero (filling_all 9 _ _ _ _ c.loop-i-test.false c.loop-i.invariant)

pub loop-i-init : goal.loop-i-init
loop-i-init c = filling_none 9 _ _
