-- `plane_fit::fit` meets its contract: the tests in their order, then mean and scatter written. Assumes nothing.
use mathlib.Core.Path.{sym, ◌∙◌}
use borrow.Author.Tests.{lt-ltb, le-ltb, eq-eqb, ne_eqb}
use Rattle.refusals.specs.Refusal.{refused, accepted}
use Rattle.plane_fit.specs.Calls.{fit_refusal, shaped}
use Rattle.plane_fit.specs.Steps.{told_is}
use Rattle.plane_fit.proofs.fit.Goals as goal
use Rattle.plane_fit.proofs.fit.Goals.{Else-bad_actions}

pub returns-then-dof-gt-MOST_DOF : goal.returns-then-dof-gt-MOST_DOF
unfolding fit_refusal
returns-then-dof-gt-MOST_DOF c = refused (rw (lt-ltb _ _ c.if-dof-gt-MOST_DOF.true))

pub returns-then-is_empty : goal.returns-then-is_empty
unfolding fit_refusal
returns-then-is_empty c = refused (rw (le-ltb _ _ c.if-dof-gt-MOST_DOF.false, sym c.is_empty.ensures ∙ c.if-is_empty.true))

pub returns-then-bad_frames : goal.returns-then-bad_frames
unfolding fit_refusal
returns-then-bad_frames c =
    refused (rw (le-ltb _ _ c.if-dof-gt-MOST_DOF.false, sym c.is_empty.ensures ∙ c.if-is_empty.false, sym c.bad_frames.ensures ∙ c.if-bad_frames.true))

pub returns-then-bad_fixed : goal.returns-then-bad_fixed
unfolding fit_refusal
returns-then-bad_fixed c =
    refused
    (rw (
      le-ltb _ _ c.if-dof-gt-MOST_DOF.false,
      sym c.is_empty.ensures ∙ c.if-is_empty.false,
      sym c.bad_frames.ensures ∙ c.if-bad_frames.false,
      sym c.bad_fixed.ensures ∙ c.if-bad_fixed.true,
    ))

pub returns-then-out-ne12 : goal.returns-then-out-ne12
unfolding fit_refusal
returns-then-out-ne12 c =
    refused
    (rw (
      le-ltb _ _ c.if-dof-gt-MOST_DOF.false,
      sym c.is_empty.ensures ∙ c.if-is_empty.false,
      sym c.bad_frames.ensures ∙ c.if-bad_frames.false,
      sym c.bad_fixed.ensures ∙ c.if-bad_fixed.false,
      ne_eqb _ _ c.if-out-ne12.true,
    ))

pub returns-then-bad_actions : goal.returns-then-bad_actions
unfolding fit_refusal
returns-then-bad_actions c =
    refused
    (rw (
      le-ltb _ _ c.if-dof-gt-MOST_DOF.false,
      sym c.is_empty.ensures ∙ c.if-is_empty.false,
      sym c.bad_frames.ensures ∙ c.if-bad_frames.false,
      sym c.bad_fixed.ensures ∙ c.if-bad_fixed.false,
      eq-eqb _ _ c.if-out-ne12.false,
      sym c.bad_actions.ensures ∙ c.if-bad_actions.true,
    ))

pub fit_mean-mean-requires : goal.fit_mean-mean-requires
fit_mean-mean-requires c =
    shaped _ _ _ (sym c.bad_frames.ensures ∙ c.if-bad_frames.false) (sym c.bad_fixed.ensures ∙ c.if-bad_fixed.false) (sym c.bad_actions.ensures ∙ c.if-bad_actions.false)

pub fit_scatter-scatter-requires : goal.fit_scatter-scatter-requires
fit_scatter-scatter-requires c = fit_mean-mean-requires (goal.at.fit_scatter-scatter-requires c).Else-bad_actions

pub returns : goal.returns
unfolding fit_refusal
returns c =
    accepted
    (rw (
      le-ltb _ _ c.if-dof-gt-MOST_DOF.false,
      sym c.is_empty.ensures ∙ c.if-is_empty.false,
      sym c.bad_frames.ensures ∙ c.if-bad_frames.false,
      sym c.bad_fixed.ensures ∙ c.if-bad_fixed.false,
      eq-eqb _ _ c.if-out-ne12.false,
      sym c.bad_actions.ensures ∙ c.if-bad_actions.false,
    ))
    (c.copy_from_slice.ensures.after ∙ c.three_and_nine.ensures ∙ told_is _ _ _ _ _ c.fit_mean-mean.ensures c.fit_scatter-scatter.ensures)
