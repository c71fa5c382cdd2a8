-- `plane_moments::accumulate::bad_lengths` meets its contract: the four tests in their order. Assumes nothing.
use borrow.Author.Tests.{eq-eqb, ne_eqb}
use Rattle.plane_moments.specs.Accumulate.{bad_lengths}
use Rattle.plane_moments.proofs.accumulate.bad_lengths.Goals as goal

pub returns-then-bad_frames : goal.returns-then-bad_frames
unfolding bad_lengths
returns-then-bad_frames c = rw (← c.bad_frames.ensures, c.if-bad_frames.true)

pub returns-then-bad_fixed : goal.returns-then-bad_fixed
unfolding bad_lengths
returns-then-bad_fixed c =
    rw (← c.bad_frames.ensures, c.if-bad_frames.false, ← c.bad_fixed.ensures, c.if-bad_fixed.true)

pub returns-then-decomposition-ne-DECOMPOSITION : goal.returns-then-decomposition-ne-DECOMPOSITION
unfolding bad_lengths
returns-then-decomposition-ne-DECOMPOSITION c =
    rw (← c.bad_frames.ensures, c.if-bad_frames.false, ← c.bad_fixed.ensures, c.if-bad_fixed.false, ne_eqb _ _ c.if-decomposition-ne-DECOMPOSITION.true)

pub returns : goal.returns
unfolding bad_lengths
returns c =
    rw (
      ← c.bad_frames.ensures,
      c.if-bad_frames.false,
      ← c.bad_fixed.ensures,
      c.if-bad_fixed.false,
      eq-eqb _ _ c.if-decomposition-ne-DECOMPOSITION.false,
      c.bad_target.ensures,
    )
