-- `moment_lists::push` is refused for the length of the point before any other reason. Assumes nothing.
use mathlib.Core.Bool.{or-true}
use borrow.Author.Tests.{ne_eqb}
use Rattle.refusals.specs.Refusal.{refused}
use Rattle.moment_lists.specs.Calls.{push_refusal}
use Rattle.moment_lists.proofs.push.Goals as goal

pub returns-then-point-ne3 : goal.returns-then-point-ne3
unfolding push_refusal
returns-then-point-ne3 c = refused (rw (ne_eqb _ _ c.if-point-ne3.true, or-true))
