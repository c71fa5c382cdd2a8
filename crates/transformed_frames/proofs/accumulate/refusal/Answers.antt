-- `transformed_frames::accumulate::refusal` meets its contract: the tests in their order. Assumes nothing.
use mathlib.Core.Path.{sym, ap, ◌∙◌}
use mathlib.Core.Bool.{not}
use borrow.Author.Tests.{lt-ltb, le-ltb, eq-eqb, ne_eqb}
use Rattle.block_transforms.specs.Reasons.{through_refusal}
use Rattle.plane_moments.specs.Accumulate.{transformed_frames_refusal}
use Rattle.transformed_frames.proofs.accumulate.refusal.Goals as goal

pub returns-then-dof-gt-MOST_DOF : goal.returns-then-dof-gt-MOST_DOF
unfolding transformed_frames_refusal
returns-then-dof-gt-MOST_DOF c = rw (lt-ltb _ _ c.if-dof-gt-MOST_DOF.true)

pub returns-then-frames-eq0 : goal.returns-then-frames-eq0
unfolding transformed_frames_refusal
returns-then-frames-eq0 c = rw (le-ltb _ _ c.if-dof-gt-MOST_DOF.false, eq-eqb _ _ c.if-frames-eq0.true)

pub returns-then-bad_lengths : goal.returns-then-bad_lengths
unfolding transformed_frames_refusal
returns-then-bad_lengths c = rw (le-ltb _ _ c.if-dof-gt-MOST_DOF.false, ne_eqb _ _ c.if-frames-eq0.false, sym c.bad_lengths.ensures ∙ c.if-bad_lengths.true)

pub returns-then-bad_beside : goal.returns-then-bad_beside
unfolding transformed_frames_refusal
returns-then-bad_beside c =
    rw (
      le-ltb _ _ c.if-dof-gt-MOST_DOF.false,
      ne_eqb _ _ c.if-frames-eq0.false,
      sym c.bad_lengths.ensures ∙ c.if-bad_lengths.false,
      sym c.bad_beside.ensures ∙ c.if-bad_beside.true,
    )

pub returns-then-not-is_positive : goal.returns-then-not-is_positive
unfolding transformed_frames_refusal
returns-then-not-is_positive c =
    rw (
      le-ltb _ _ c.if-dof-gt-MOST_DOF.false,
      ne_eqb _ _ c.if-frames-eq0.false,
      sym c.bad_lengths.ensures ∙ c.if-bad_lengths.false,
      sym c.bad_beside.ensures ∙ c.if-bad_beside.false,
      ap not (sym c.is_positive.ensures ∙ c.if-not-is_positive.true),
    )

pub returns-then-bad_actions : goal.returns-then-bad_actions
unfolding transformed_frames_refusal
returns-then-bad_actions c =
    rw (
      le-ltb _ _ c.if-dof-gt-MOST_DOF.false,
      ne_eqb _ _ c.if-frames-eq0.false,
      sym c.bad_lengths.ensures ∙ c.if-bad_lengths.false,
      sym c.bad_beside.ensures ∙ c.if-bad_beside.false,
      ap not (sym c.is_positive.ensures ∙ c.if-not-is_positive.false),
      sym c.bad_actions.ensures ∙ c.if-bad_actions.true,
    )

pub returns : goal.returns
unfolding transformed_frames_refusal through_refusal
returns c =
    rw (
      le-ltb _ _ c.if-dof-gt-MOST_DOF.false,
      ne_eqb _ _ c.if-frames-eq0.false,
      sym c.bad_lengths.ensures ∙ c.if-bad_lengths.false,
      sym c.bad_beside.ensures ∙ c.if-bad_beside.false,
      ap not (sym c.is_positive.ensures ∙ c.if-not-is_positive.false),
      sym c.bad_actions.ensures ∙ c.if-bad_actions.false,
    )
    c.through_refusal.ensures
