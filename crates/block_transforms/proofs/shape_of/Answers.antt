-- `block_transforms::shape_of` meets its contract: both words must say that there is none. Assumes nothing.
use Rattle.std.proofs.Common.{eq-eqb, ne_eqb}
use Rattle.block_transforms.specs.Transform.{shape_of}
use Rattle.block_transforms.proofs.shape_of.Goals as goal
use Rattle.block_transforms.proofs.shape_of.Goals.{else-rows-eq-NO_TRANSFORM-via-then-rows-eq-NO_TRANSFORM+else-cols-eq-NO_TRANSFORM, else-rows-eq-NO_TRANSFORM-via-else-rows-eq-NO_TRANSFORM}

pub returns-then-cols-eq-NO_TRANSFORM : goal.returns-then-cols-eq-NO_TRANSFORM
unfolding shape_of
returns-then-cols-eq-NO_TRANSFORM c = rw (eq-eqb _ _ c.if-rows-eq-NO_TRANSFORM.true, eq-eqb _ _ c.if-cols-eq-NO_TRANSFORM.true)

pub returns : goal.returns
unfolding shape_of
returns c =
    elim c.else-rows-eq-NO_TRANSFORM.branch [
      | else-rows-eq-NO_TRANSFORM-via-then-rows-eq-NO_TRANSFORM+else-cols-eq-NO_TRANSFORM w ↦ rw (eq-eqb _ _ w.if-rows-eq-NO_TRANSFORM.true, ne_eqb _ _ w.if-cols-eq-NO_TRANSFORM.false)
      | else-rows-eq-NO_TRANSFORM-via-else-rows-eq-NO_TRANSFORM w ↦ rw (ne_eqb _ _ w.if-rows-eq-NO_TRANSFORM.false)
    ]
