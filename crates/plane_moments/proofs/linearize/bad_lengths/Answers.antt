-- `plane_moments::linearize::bad_lengths` meets its contract: the four tests in their order. Assumes nothing.
use mathlib.Core.Path.{sym, ◌∙◌}
use Rattle.plane_fit.specs.Calls.{whole_frames}
use Rattle.plane_moments.specs.Linearize.{bad_lengths}
use Rattle.plane_moments.proofs.linearize.bad_lengths.Goals as goal

pub returns-then-bad_frames : goal.returns-then-bad_frames
unfolding bad_lengths
returns-then-bad_frames c = rw (← c.bad_frames.ensures, c.if-bad_frames.true)

pub returns-then-bad_fixed : goal.returns-then-bad_fixed
unfolding bad_lengths
returns-then-bad_fixed c =
    rw (← c.bad_frames.ensures, c.if-bad_frames.false, ← c.bad_fixed.ensures, c.if-bad_fixed.true)

pub bad_decompositions-requires : goal.bad_decompositions-requires
bad_decompositions-requires c =
    (whole_frames _ (sym c.bad_frames.ensures ∙ c.if-bad_frames.false)).1

pub returns-then-bad_decompositions : goal.returns-then-bad_decompositions
unfolding bad_lengths
returns-then-bad_decompositions c =
    rw (
      ← c.bad_frames.ensures,
      c.if-bad_frames.false,
      ← c.bad_fixed.ensures,
      c.if-bad_fixed.false,
      ← c.bad_decompositions.ensures,
      c.if-bad_decompositions.true,
    )

pub bad_outputs-requires : goal.bad_outputs-requires
bad_outputs-requires c =
    ((whole_frames _ (sym c.bad_frames.ensures ∙ c.if-bad_frames.false)).1, c.requires)

pub returns : goal.returns
unfolding bad_lengths
returns c =
    rw (
      ← c.bad_frames.ensures,
      c.if-bad_frames.false,
      ← c.bad_fixed.ensures,
      c.if-bad_fixed.false,
      ← c.bad_decompositions.ensures,
      c.if-bad_decompositions.false,
      c.bad_outputs.ensures,
    )
