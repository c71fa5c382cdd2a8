-- `bundle_points::add_spread` meets its contract: point after point. Assumes nothing.
use Prim.Native.Nat.{ℕ, ◌<◌}
use mathlib.Core.Path.{◌≡◌}
use native.Mathlib.Omega.{arith}
use Rattle.sums.specs.Laws.{sum_from_more}
use Rattle.bundle_points.specs.Points.{point_count, difference, spread}
use Rattle.bundle_points.proofs.Chunks.{point_at}
use Rattle.bundle_points.proofs.add_spread.Goals as goal

pub loop-p-preserved : goal.loop-p-preserved
unfolding spread difference
loop-p-preserved c =
    let at = c.loop-p in
    let p = λ (r : ℕ) (h : r < 3). point_at _ _ c.as_chunks.ensures.front at.p-index r (omega (arith, c.as_chunks.ensures.front_len)) h in
    let x = p 0 (omega arith) in
    let y = p 1 (omega arith) in
    let z = p 2 (omega arith) in (
      rw (sum_from_more _ at.p-index _, at.invariant.0, x),
      rw (sum_from_more _ at.p-index _, at.invariant.1, x, y),
      rw (sum_from_more _ at.p-index _, at.invariant.2, x, z),
      rw (sum_from_more _ at.p-index _, at.invariant.3, y),
      rw (sum_from_more _ at.p-index _, at.invariant.4, y, z),
      rw (sum_from_more _ at.p-index _, at.invariant.5, z),
    )

pub returns : goal.returns
unfolding spread difference
returns c =
    let at = c.loop-p in
    let e : point_count c.args.list.now ≡ at.p-index = omega (arith, c.as_chunks.ensures.front_len) in
    rw (e, at.invariant.0, at.invariant.1, at.invariant.2, at.invariant.3, at.invariant.4, at.invariant.5)
