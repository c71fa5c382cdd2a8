-- `moment_lists::from_points` leaves the output as it was where its length is wrong. Assumes nothing.
use mathlib.Core.Path.{◌∙◌}
use borrow.Author.Tests.{ne_eqb}
use Rattle.refusals.specs.Refusal.{refused}
use Rattle.moment_lists.proofs.FromPoints.{no_push_refused}
use Rattle.moment_lists.proofs.from_points.Goals as goal

pub returns-then-moments-ne-MOMENTS : goal.returns-then-moments-ne-MOMENTS
returns-then-moments-ne-MOMENTS c = refused (no_push_refused _ _ ∙ rw (ne_eqb _ _ c.if-moments-ne-MOMENTS.true))
