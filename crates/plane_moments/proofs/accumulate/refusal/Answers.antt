-- `plane_moments::accumulate::refusal` meets its contract: the tests in their order. Assumes nothing.
use mathlib.Core.Path.{◌≡◌, sym, ap, ◌∙◌}
use mathlib.Core.Bool.{true, false, not}
use borrow.Author.Tests.{lt-ltb, le-ltb, eq-eqb, ne_eqb}
use Rattle.validate.specs.Finite.{finite_positive}
use Rattle.normal_blocks.specs.Calls.{map_refusal}
use Rattle.plane_moments.proofs.Accumulating.{plain_refusal}
use Rattle.plane_moments.proofs.accumulate.refusal.Goals as goal

pub returns-then-dof-gt-MOST_DOF : goal.returns-then-dof-gt-MOST_DOF
returns-then-dof-gt-MOST_DOF c = rw (plain_refusal, lt-ltb _ _ c.if-dof-gt-MOST_DOF.true)

pub returns-then-frames-eq0 : goal.returns-then-frames-eq0
returns-then-frames-eq0 c = rw (plain_refusal, le-ltb _ _ c.if-dof-gt-MOST_DOF.false, eq-eqb _ _ c.if-frames-eq0.true)

pub returns-then-bad_lengths : goal.returns-then-bad_lengths
returns-then-bad_lengths c =
    rw (plain_refusal, le-ltb _ _ c.if-dof-gt-MOST_DOF.false, ne_eqb _ _ c.if-frames-eq0.false, sym c.bad_lengths.ensures ∙ c.if-bad_lengths.true)

pub returns-then-not-is_positive : goal.returns-then-not-is_positive
returns-then-not-is_positive c =
    let bad : not (finite_positive c.args.sigma) ≡ true = cc in
    rw (plain_refusal, le-ltb _ _ c.if-dof-gt-MOST_DOF.false, ne_eqb _ _ c.if-frames-eq0.false, sym c.bad_lengths.ensures ∙ c.if-bad_lengths.false, bad)

pub returns-then-bad_actions : goal.returns-then-bad_actions
returns-then-bad_actions c =
    let good : not (finite_positive c.args.sigma) ≡ false = cc in
    rw (
      plain_refusal,
      le-ltb _ _ c.if-dof-gt-MOST_DOF.false,
      ne_eqb _ _ c.if-frames-eq0.false,
      sym c.bad_lengths.ensures ∙ c.if-bad_lengths.false,
      good,
      sym c.bad_actions.ensures ∙ c.if-bad_actions.true,
    )

pub returns : goal.returns
unfolding map_refusal
returns c =
    rw (
      plain_refusal,
      le-ltb _ _ c.if-dof-gt-MOST_DOF.false,
      ne_eqb _ _ c.if-frames-eq0.false,
      sym c.bad_lengths.ensures ∙ c.if-bad_lengths.false,
      ap not (sym c.is_positive.ensures ∙ c.if-not-is_positive.false),
      sym c.bad_actions.ensures ∙ c.if-bad_actions.false,
    )
    c.map_refusal.ensures
