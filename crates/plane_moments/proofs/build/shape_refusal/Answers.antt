-- `plane_moments::build::shape_refusal` meets its contract: the three tests in their order. Assumes nothing.
use mathlib.Core.Path.{sym, ◌∙◌}
use borrow.Author.Tests.{lt-ltb, le-ltb, eq-eqb, ne_eqb}
use Rattle.plane_moments.specs.Steps.{shape_refusal}
use Rattle.plane_moments.proofs.build.shape_refusal.Goals as goal

pub returns-then-dof-gt-MOST_DOF : goal.returns-then-dof-gt-MOST_DOF
unfolding shape_refusal
returns-then-dof-gt-MOST_DOF c = rw (lt-ltb _ _ c.if-dof-gt-MOST_DOF.true)

pub returns-then-frames-eq0 : goal.returns-then-frames-eq0
unfolding shape_refusal
returns-then-frames-eq0 c = rw (le-ltb _ _ c.if-dof-gt-MOST_DOF.false, eq-eqb _ _ c.if-frames-eq0.true)

pub returns-then-bad_shapes : goal.returns-then-bad_shapes
unfolding shape_refusal
returns-then-bad_shapes c =
    rw (le-ltb _ _ c.if-dof-gt-MOST_DOF.false, ne_eqb _ _ c.if-frames-eq0.false, sym c.bad_shapes.ensures ∙ c.if-bad_shapes.true)

pub returns : goal.returns
unfolding shape_refusal
returns c =
    rw (le-ltb _ _ c.if-dof-gt-MOST_DOF.false, ne_eqb _ _ c.if-frames-eq0.false, sym c.bad_shapes.ensures ∙ c.if-bad_shapes.false)
