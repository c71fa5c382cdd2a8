-- `plane_moments::build::bad_shapes` meets its contract: the four tests in their order. Assumes nothing.
use Rattle.plane_moments.specs.Build.{bad_shapes}
use Rattle.plane_moments.proofs.build.bad_shapes.Goals as goal

pub returns-then-bad_records : goal.returns-then-bad_records
unfolding bad_shapes
returns-then-bad_records c = rw (← c.bad_records.ensures, c.if-bad_records.true)

pub returns-then-bad_records-2 : goal.returns-then-bad_records-2
unfolding bad_shapes
returns-then-bad_records-2 c =
    rw (← c.bad_records.ensures, c.if-bad_records.false, ← c.bad_records-2.ensures, c.if-bad_records-2.true)

pub returns-then-bad_count : goal.returns-then-bad_count
unfolding bad_shapes
returns-then-bad_count c =
    rw (
      ← c.bad_records.ensures,
      c.if-bad_records.false,
      ← c.bad_records-2.ensures,
      c.if-bad_records-2.false,
      ← c.bad_count.ensures,
      c.if-bad_count.true,
    )

pub returns : goal.returns
unfolding bad_shapes
returns c =
    rw (
      ← c.bad_records.ensures,
      c.if-bad_records.false,
      ← c.bad_records-2.ensures,
      c.if-bad_records-2.false,
      ← c.bad_count.ensures,
      c.if-bad_count.false,
      c.bad_count-2.ensures,
    )
