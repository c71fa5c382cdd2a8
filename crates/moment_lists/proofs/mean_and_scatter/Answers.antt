-- `moment_lists::mean_and_scatter` leaves the output as it was where there is no mean. Assumes nothing.
use borrow.Author.Tests.{eq-eqb}
use Rattle.refusals.specs.Refusal.{accepted}
use Rattle.moment_lists.specs.Calls.{mean_refusal, mean_answer}
use Rattle.moment_lists.proofs.mean_and_scatter.Goals as goal

pub returns-in-None : goal.returns-in-None
unfolding mean_refusal mean_answer
returns-in-None c =
    let is = rw c.from_list.ensures at c.mean_and_scatter.ensures in
    accepted (rw (eq-eqb _ _ c.if-moments-ne-MOMENTS.false, eq-eqb _ _ c.if-out-ne12.false)) (rw (← is, c.in-None.is))
