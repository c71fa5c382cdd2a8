-- `frame_sets::sum_counts` meets its contract: after k turns the first k counts are summed, and it is known whether one is at or below 0. Assumes nothing.
use mathlib.Core.Path.{◌≡◌, refl, sym}
use native.Mathlib.Numerals.{add-one}
use native.Mathlib.Omega.{arith}
use Rattle.normal_blocks.specs.Somewhere.{nowhere-none, somewhere_more}
use Rattle.point_moments.specs.Moments.{MOMENTS}
use Rattle.plane_fit.specs.Records.{whole, record_length}
use Rattle.frame_sets.specs.Sets.{set_count, count_at, count_sum, empty_at, some_empty}
use Rattle.frame_sets.proofs.sum_counts.Goals as goal

pub from_list-m-requires : goal.from_list-m-requires
from_list-m-requires c =
    let at = c.loop-k in
    let frames = c.args.frames.now in
    rw c.record_at.ensures (record_length MOMENTS frames at.k (whole MOMENTS frames at.k (omega arith) c.loop-k-test.true))

pub loop-k-preserved : goal.loop-k-preserved
unfolding count_at empty_at
loop-k-preserved c =
    let at = c.loop-k in (
      rw (c.from_list-m.ensures, c.record_at.ensures, at.invariant.0, add-one at.k),
      rw (c.from_list-m.ensures, c.record_at.ensures) (somewhere_more _ at.k at.empty at.invariant.1),
    )

pub returns : goal.returns
unfolding count_sum some_empty
returns c =
    let at = c.loop-k in
    let e : set_count c.args.frames.now ≡ at.k = omega arith in
    (rw e at.invariant.0, rw e at.invariant.1)

pub loop-k-init : goal.loop-k-init
loop-k-init c = (refl, sym (nowhere-none _))
