-- `frame_sets::centre_frames` meets its contract: after k turns the first k frames are centred. Assumes nothing.
use Prim.Native.Nat.{◌-◌, ◌*◌, ◌+◌, ◌≤◌}
use mathlib.Core.Path.{ap, ◌∙◌}
use native.Mathlib.Omega.{arith}
use lib.ListN.{length}
use Rattle.sums.specs.Fill.{column_ends, columns_more, columns_all}
use Rattle.plane_fit.specs.Records.{whole, record_length}
use Rattle.frame_sets.specs.Sets.{set_count, centred_set, centred_number, centred_frames}
use Rattle.frame_sets.specs.Steps.{frame_mean, set-written, part-size}
use Rattle.frame_sets.proofs.centre_frames.Goals as goal
use Rattle.frame_sets.proofs.centre_frames.Goals.{In-loop-k}

-- the frame, and the part that it is written to, are within the lists
ends : (c : In-loop-k) → c.loop-k.k * 13 + 13 ≤ length c.loop-k.out
ends c = omega (arith, column_ends 13 (set_count c.args.frames.now) c.loop-k.k c.loop-k-test.true, c.requires.0, c.loop-k.invariant.size)

pub centre-requires : goal.centre-requires
centre-requires c =
    let k = c.loop-k.k in
    let frames = c.args.frames.now in (
      rw c.record_at.ensures (record_length 13 frames k (whole 13 frames k (omega arith) c.loop-k-test.true)),
      part-size c.loop-k.out (k * 13) 13 (ends (goal.at.centre-requires c).In-loop-k),
      rw c.record_at.ensures (frame_mean frames c.requires.1 k c.loop-k-test.true),
    )

pub loop-k-preserved : goal.loop-k-preserved
loop-k-preserved c =
    let l = c.loop-k in
    columns_more 13 _ (centred_number c.args.frames.now) c.args.out.now l.out _ l.k c.requires.0 c.loop-k-test.true l.invariant
    (set-written c.args.frames.now l.out l.k (l.k * 13) (l.k * 13 + 13 - l.k * 13) _ (omega arith) (c.centre.ensures ∙ ap centred_set c.record_at.ensures))

pub returns : goal.returns
unfolding centred_frames
returns c = columns_all 13 _ _ _ _ _ c.requires.0 c.loop-k-test.false c.loop-k.invariant
