-- `square_root::inverse_root` meets its contract: each number fits. Assumes nothing.
use Rattle.std.proofs.Common.{ℕ, ◌-◌, ◌*◌, ◌/◌, ◌^◌, ◌<◌, ◌≤◌, lt_of_lt_of_le, arith, lit≤, shr_lt}
use lib.Bits.{mask_lt}
use mir.Facts.{Fits-bits}
use Rattle.square_root.proofs.Products.{mul-lt-pow, product}
use Rattle.square_root.proofs.inverse_root.Goals as goal
use Rattle.square_root.proofs.inverse_root.Goals.{Joined-t-lt2147483648, else-t-lt2147483648, then-t-lt2147483648}

abbrev step : (t y : ℕ) → ℕ
step t y = 0x1_3000_0000 - t * (y * y) / 2 ^ 32

y_lt : (c : Joined-t-lt2147483648) → c.if-t-lt2147483648.y < 2 ^ 16
y_lt c = elim c.if-t-lt2147483648.branch [ then-t-lt2147483648 w ↦ omega arith | else-t-lt2147483648 w ↦ omega arith ]

square-lt : (c : Joined-t-lt2147483648) → c.if-t-lt2147483648.y * c.if-t-lt2147483648.y < 2 ^ 32
square-lt c = mul-lt-pow 16 16 (y_lt c) (y_lt c)

pub overflow_mul-p : goal.overflow_mul-p
overflow_mul-p c = Fits-bits 32 tt (square-lt (goal.at.overflow_mul-p c).Joined-t-lt2147483648)

pub overflow_mul-p-2 : goal.overflow_mul-p-2
overflow_mul-p-2 c = product c.requires (square-lt (goal.at.overflow_mul-p-2 c).Joined-t-lt2147483648)

pub overflow_sub-d : goal.overflow_sub-d
overflow_sub-d c = go (shr_lt 32 32 (mul-lt-pow 32 32 c.requires (square-lt (goal.at.overflow_sub-d c).Joined-t-lt2147483648)))
  where
    go : {p : ℕ} → p < 2 ^ 32 → p ≤ 0x1_3000_0000
    go h = omega arith

pub overflow_mul-result : goal.overflow_mul-result
overflow_mul-result c = product (lt_of_lt_of_le (y_lt (goal.at.overflow_mul-result c).Joined-t-lt2147483648) (lit≤ tt)) (mask_lt (step c.args.t c.if-t-lt2147483648.y) 32)

pub returns : goal.returns
returns c = shr_lt 32 16 (mul-lt-pow 16 32 (y_lt (goal.at.returns c).Joined-t-lt2147483648) (mask_lt (step c.args.t c.if-t-lt2147483648.y) 32))
