-- `square_root::parabola` meets its contract. Assumes nothing.
use Rattle.std.proofs.Common.{ℕ, ◌*◌, ◌/◌, ◌^◌, ◌<◌, ◌≤◌, le_trans, le_of_eq, lt_of_le_of_lt, le_of_lt, mul-le-mul_right, mul_comm, div-lt_iff_lt-mul, mul-le-mul_left, sub-le, arith, pow_pos}
use Rattle.square_root.proofs.Products.{product}
use Rattle.square_root.proofs.parabola.Goals as goal

pub overflow_mul-v : goal.overflow_mul-v
overflow_mul-v c = product c.requires.0 (lt_of_le_of_lt c.requires.3 c.requires.2)

-- t * b / 2 ^ 32 is at most b, for a t below 1
scaled : (t b : ℕ) → t < 2 ^ 32 → t * b / 2 ^ 32 ≤ b
scaled t b h = go (t * b) (b * 2 ^ 32) (le_trans (mul-le-mul_right b (le_of_lt h)) (le_of_eq (mul_comm (2 ^ 32) b)))
  where
    go : (x y : ℕ) → x ≤ b * 2 ^ 32 → x / 2 ^ 32 ≤ b
    go x y l = omega arith

pub overflow_sub-v : goal.overflow_sub-v
overflow_sub-v c = le_trans (scaled c.args.t c.args.c2 c.requires.0) c.requires.3

pub overflow_mul-result : goal.overflow_mul-result
overflow_mul-result c = product c.requires.0 (lt_of_le_of_lt (sub-le c.args.c1 (c.args.t * c.args.c2 / 2 ^ 32)) c.requires.2)

pub overflow_sub-result : goal.overflow_sub-result
overflow_sub-result c =
    le_of_lt ((div-lt_iff_lt-mul (pow_pos 32)).1 (lt_of_le_of_lt (mul-le-mul_left c.args.t (sub-le c.args.c1 (c.args.t * c.args.c2 / 2 ^ 32))) c.requires.4))
