-- `plane_moments::build::build_sets` meets its contract: the refusal, or the four outputs. Assumes nothing.
use mathlib.Core.Path.{sym}
use Rattle.refusals.specs.Refusal.{accepted}
use Rattle.plane_moments.specs.Build.{built}
use Rattle.plane_moments.proofs.Laws.{sets_filled}
use Rattle.plane_moments.proofs.build.build_sets.Goals as goal

pub centre_frames-requires : goal.centre_frames-requires
centre_frames-requires c = (c.requires.frames_out, sets_filled _ _ _ (sym c.in_ok-set_refusal.ensures))

pub returns-then-is_dropped : goal.returns-then-is_dropped
unfolding built
returns-then-is_dropped c =
    accepted (sym c.in_ok-set_refusal.ensures)
    (rw (c.centre_frames.ensures, c.centre_fixed.ensures, c.test_counts-counts.ensures.1, ← c.is_dropped.ensures, c.if-is_dropped.true))

pub returns-else-is_dropped : goal.returns-else-is_dropped
unfolding built
returns-else-is_dropped c =
    accepted (sym c.in_ok-set_refusal.ensures)
    (rw (c.centre_frames.ensures, c.centre_fixed.ensures, c.test_counts-counts.ensures.1, ← c.is_dropped.ensures, c.if-is_dropped.false))
