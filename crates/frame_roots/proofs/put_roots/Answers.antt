-- `frame_roots::put_roots` meets its contract: after k turns the roots of the batch's first k frames are there. Assumes nothing.
use Prim.Native.Nat.{◌+◌}
use mathlib.Core.Path.{◌≡◌}
use native.Mathlib.Omega.{arith}
use Rattle.frame_roots.specs.Batch.{four_of, rooted_more}
use Rattle.frame_roots.specs.Roots.{root_with, decomposition_at}
use Rattle.frame_roots.proofs.put_roots.Goals as goal

pub loop-k-preserved : goal.loop-k-preserved
loop-k-preserved c =
    let l = c.loop-k in
    let a = c.args in
    let is : c.with.result ≡ root_with (decomposition_at a.ds.now (a.from + l.k + 1)) (four_of a.fours.now l.k)
    = rw (c.with.ensures, c.decomposition_at.ensures, c.four_at-v.ensures) in
    rooted_more a.ds.now a.from a.fours.now (omega arith) is c.put_root.ensures l.invariant
