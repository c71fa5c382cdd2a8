-- `plane_fit::bad_records` meets its contract. Assumes nothing.
use borrow.Author.Tests.{eq-eqb, ne_eqb}
use Rattle.plane_fit.specs.Calls.{bad_records}
use Rattle.plane_fit.proofs.bad_records.Goals as goal

pub returns-then-list-size-ne0 : goal.returns-then-list-size-ne0
unfolding bad_records
returns-then-list-size-ne0 c = rw (ne_eqb _ _ c.if-list-size-ne0.true)

pub returns-else-list-size-ne0 : goal.returns-else-list-size-ne0
unfolding bad_records
returns-else-list-size-ne0 c = rw (eq-eqb _ _ c.if-list-size-ne0.false)
