-- `frame_roots::fill_radicands` meets its contract: after k turns those of the batch's first k frames are there. Assumes nothing.
use Prim.Native.Nat.{◌+◌}
use mathlib.Core.Path.{◌≡◌}
use native.Mathlib.Omega.{arith}
use Rattle.plane_fit.specs.Fit.{frame_at}
use Rattle.frame_roots.specs.Batch.{radicands_more}
use Rattle.frame_roots.specs.Roots.{radicands_of, decomposition_at, decomposition_whole}
use Rattle.frame_roots.proofs.fill_radicands.Goals as goal

pub radicands-v-requires : goal.radicands-v-requires
radicands-v-requires c =
    let a = c.args in
    rw c.decomposition_at.ensures (decomposition_whole a.ds.now (a.from + c.loop-k.k + 1) (omega arith))

pub loop-k-preserved : goal.loop-k-preserved
loop-k-preserved c =
    let l = c.loop-k in
    let a = c.args in
    let is : c.radicands-v.result ≡ radicands_of (decomposition_at a.ds.now (a.from + l.k + 1)) (frame_at a.frames.now (a.from + l.k)).count
    = rw (c.radicands-v.ensures, c.decomposition_at.ensures, c.from_list-f.ensures, c.record.ensures) in
    radicands_more _ _ _ (omega arith) is c.put_four.ensures l.invariant
