-- `square_root::many::digits` meets its contract: a NaN, an odd exponent, an even one. Assumes nothing.
use Rattle.std.proofs.Common.{◌≡◌, ℕ, ◌+◌, ◌%◌, arith}
use Rattle.square_root.specs.Many.{digits_of}
use Rattle.square_root.proofs.Patterns.{is_no_nan}
use Rattle.square_root.proofs.many.digits.Goals as goal

-- 1073 turns odd and even around
odd : (e : ℕ) → e % 2 ≡ 1 → (e + 1073) % 2 ≡ 0
odd e h = omega arith

even : (e : ℕ) → (e % 2 ≡ 1 → ⊥) → (e + 1073) % 2 ≡ 1
even e h = omega arith

pub returns-then-x : goal.returns-then-x
unfolding digits_of
returns-then-x c = rw c.if-x.true

pub float_to_bits-b : goal.float_to_bits-b
float_to_bits-b c = is_no_nan c.args.x c.if-x.false

pub returns-then-b-eq1 : goal.returns-then-b-eq1
unfolding digits_of
returns-then-b-eq1 c = rw (c.if-x.false, odd _ c.if-b-eq1.true) (omega arith)

pub returns-else-b-eq1 : goal.returns-else-b-eq1
unfolding digits_of
returns-else-b-eq1 c = rw (c.if-x.false, even _ c.if-b-eq1.false) (omega arith)
