-- `bundle_points::add_points` meets its contract: point after point. Assumes nothing.
use Prim.Native.Nat.{ℕ, ◌<◌}
use mathlib.Core.Path.{◌≡◌}
use native.Mathlib.Omega.{arith}
use Rattle.sums.specs.Laws.{sum_from_more}
use Rattle.bundle_points.specs.Points.{point_count}
use Rattle.bundle_points.proofs.Chunks.{point_at}
use Rattle.bundle_points.proofs.add_points.Goals as goal

pub loop-p-preserved : goal.loop-p-preserved
loop-p-preserved c =
    let at = c.loop-p in
    let p = λ (r : ℕ) (h : r < 3). point_at _ _ c.as_chunks.ensures.front at.p-index r (omega (arith, c.as_chunks.ensures.front_len)) h in (
      rw (sum_from_more _ at.p-index _, at.invariant.0, p 0 (omega arith)),
      rw (sum_from_more _ at.p-index _, at.invariant.1, p 1 (omega arith)),
      rw (sum_from_more _ at.p-index _, at.invariant.2, p 2 (omega arith)),
    )

pub returns : goal.returns
returns c =
    let at = c.loop-p in
    let e : point_count c.args.list.now ≡ at.p-index = omega (arith, c.as_chunks.ensures.front_len) in
    rw (e, at.invariant.0, at.invariant.1, at.invariant.2)
