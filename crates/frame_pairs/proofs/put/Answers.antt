-- `frame_pairs::put` meets its contract: after i turns the first i numbers are put. Assumes nothing.
use mathlib.Core.Path.{◌≡◌, refl}
use native.Mathlib.Omega.{arith}
use borrow.Author.Rules.{rules}
use Rattle.frame_pairs.proofs.Lanes.{put-none, put_more}
use Rattle.frame_pairs.proofs.put.Goals as goal

pub loop-i-preserved : goal.loop-i-preserved
loop-i-preserved c =
    let l = c.loop-i in
    put_more _ _ _ _ l.i l.cells _ (search rules) (search rules) refl l.invariant

pub returns : goal.returns
returns c =
    let l = c.loop-i in
    let e : l.i ≡ c.args.width = omega arith in
    rw e at l.invariant

pub loop-i-init : goal.loop-i-init
loop-i-init c = put-none _ _ _ _

pub bounds-cells-e : goal.bounds-cells-e
bounds-cells-e c = omega (arith, c.loop-i.invariant.long)
