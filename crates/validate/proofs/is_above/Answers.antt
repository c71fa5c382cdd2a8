-- `validate::is_above` meets its contract: x lies between the bound and +∞. Assumes nothing.
use lib.Ieee.{div, of_bits, of_fields, odd}
use Rattle.validate.proofs.Laws.{under_top}
use Rattle.validate.proofs.is_above.Goals as goal

pub returns-then-bound-x : goal.returns-then-bound-x
unfolding div of_bits of_fields odd
returns-then-bound-x c = rw c.if-bound-x.true at (under_top c.args.bound c.args.x)

pub returns-else-bound-x : goal.returns-else-bound-x
returns-else-bound-x c = rw c.if-bound-x.false at (under_top c.args.bound c.args.x)
