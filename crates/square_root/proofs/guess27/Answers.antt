-- `square_root::guess27` meets its contract: each number fits. Assumes nothing.
use Rattle.std.proofs.Common.{ℕ, ◌+◌, ◌*◌, ◌/◌, ◌^◌, ◌<◌, arith, shr_lt, w64, Fits}
use Rattle.square_root.proofs.Products.{mul-lt-pow, product}
use Rattle.square_root.proofs.guess27.Goals as goal
use Rattle.square_root.proofs.guess27.Goals.{Joined-g-n, else-g-n, then-g-n}

pub overflow_mul-g : goal.overflow_mul-g
overflow_mul-g c = product (shr_lt 32 22 c.requires) c.inverse_root-y.ensures

-- the first guess
guess_lt : (n y : ℕ) → n < 2 ^ 54 → y < 2 ^ 32 → n / 2 ^ 22 * y / 2 ^ 32 < 2 ^ 32
guess_lt n y h k = shr_lt 32 32 (mul-lt-pow 32 32 (shr_lt 32 22 h) k)

pub overflow_mul-g-2 : goal.overflow_mul-g-2
overflow_mul-g-2 c = let g = guess_lt c.args.n c.inverse_root-y.result c.requires c.inverse_root-y.ensures in product g g

rest_lt : (c : Joined-g-n) → c.if-g-n.rest < 2 ^ 54
rest_lt c = elim c.if-g-n.branch [ then-g-n w ↦ omega arith | else-g-n w ↦ omega arith ]

pub overflow_mul-h : goal.overflow_mul-h
overflow_mul-h c = product (shr_lt 32 22 (rest_lt (goal.at.overflow_mul-h c).Joined-g-n)) c.inverse_root-y.ensures

sum_fits : (a b : ℕ) → a < 2 ^ 32 → b < 2 ^ 64 → Fits w64 (a + b / 2 ^ 33)
sum_fits a b h k = omega arith

pub overflow_add-h : goal.overflow_add-h
overflow_add-h c =
    let n = c.args.n in
    let y = c.inverse_root-y.result in
    let Y = c.inverse_root-y.ensures in
    sum_fits (n / 2 ^ 22 * y / 2 ^ 32) (c.if-g-n.rest / 2 ^ 22 * y) (guess_lt n y c.requires Y) (mul-lt-pow 32 32 (shr_lt 32 22 (rest_lt (goal.at.overflow_add-h c).Joined-g-n)) Y)
