-- `validate::is_finite` meets its contract: x lies between the infinities. Assumes nothing.
use lib.Ieee.{div, neg, of_bits, of_fields, odd}
use Rattle.validate.proofs.Laws.{between}
use Rattle.validate.proofs.is_finite.Goals as goal

pub returns-then-x : goal.returns-then-x
unfolding div neg of_bits of_fields odd
returns-then-x c = rw c.if-x.true at (between c.args.x)

pub returns-else-x : goal.returns-else-x
unfolding div neg of_bits of_fields odd
returns-else-x c = rw c.if-x.false at (between c.args.x)
