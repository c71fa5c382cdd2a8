-- `plane_fit::weigh` meets its contract: after k turns the first k frames are weighed. Assumes nothing.
use mathlib.Core.Path.{◌≡◌}
use native.Mathlib.Numerals.{add-one}
use native.Mathlib.Omega.{arith}
use Rattle.plane_fit.specs.Records.{record_length}
use Rattle.plane_fit.specs.Fit.{frame_count, count_at, weighted_at}
use Rattle.plane_fit.proofs.weigh.Goals as goal

pub from_list-f-requires : goal.from_list-f-requires
from_list-f-requires c = rw c.frame.ensures (record_length 13 _ c.loop-k.k (omega arith))

pub loop-k-preserved : goal.loop-k-preserved
unfolding count_at weighted_at
loop-k-preserved c =
    let at = c.loop-k in
    rw (c.with_set-s.ensures, c.centre-w.ensures, c.record.ensures, c.from_list-f.ensures, c.frame.ensures, at.invariant, add-one at.k)

pub returns : goal.returns
returns c =
    let e : frame_count c.args.frames.now ≡ c.loop-k.k = omega arith in
    rw e c.loop-k.invariant
