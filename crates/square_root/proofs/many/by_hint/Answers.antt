-- `square_root::many::by_hint` meets its contract: `told` of `Halves.antt`. Assumes nothing.
use Rattle.std.proofs.Common.{◌≡◌, ℕ, ◌+◌, ◌-◌, ◌*◌, mod-lt, lit<, ◌/◌, ◌%◌, ◌^◌, ◌<◌, arith}
use Rattle.square_root.proofs.Products.{product}
use Rattle.square_root.proofs.Halves.{told}
use Rattle.square_root.proofs.many.by_hint.Goals as goal
use Rattle.square_root.proofs.many.by_hint.Goals.{After-times, After-times-2}

-- the upper digits are 32, and the lower ones at most 28
upper : (c : After-times) → (c.times.result / 2 ^ 31 + 0xffff_fffc) % 2 ^ 32 < 2 ^ 32
upper c = omega arith

lower : (c : After-times-2) → (c.times-2.result / 2 ^ 30 + 3) / 2 ^ 7 < 2 ^ 28
lower c = omega arith

short : {q : ℕ} → q < 2 ^ 28 → q < 2 ^ 32
short h = omega arith

pub overflow_mul-r : goal.overflow_mul-r
overflow_mul-r c = product (upper c) (upper c)

pub overflow_mul-u : goal.overflow_mul-u
overflow_mul-u c = product (upper (goal.at.overflow_mul-u c).After-times) (short (lower c))

pub overflow_mul-d : goal.overflow_mul-d
overflow_mul-d c = let q = short (lower (goal.at.overflow_mul-d c).After-times-2) in product q q

-- a difference that wraps, and what is taken away added again
again : (m b : ℕ) → b < 2 ^ 64 → ((m % 2 ^ 64 + (2 ^ 64 - b)) % 2 ^ 64 + b) % 2 ^ 64 ≡ m % 2 ^ 64
again m b h = omega arith

again-small : (m b : ℕ) → m < 2 ^ 64 → b < 2 ^ 64 → ((m + (2 ^ 64 - b)) % 2 ^ 64 + b) % 2 ^ 64 ≡ m
again-small m b h k = omega arith

twice : (s q : ℕ) → s < 2 ^ 32 → q < 2 ^ 28 → 2 * (s * 2 ^ 22 % 2 ^ 64 + q) < 2 ^ 64
twice s q h k = omega arith

pub returns : goal.returns
returns c lo hi none =
    let s = upper (goal.at.returns c).After-times in
    let q = lower (goal.at.returns c).After-times-2 in
    let most = short q in
    told c.args.n _ _ _ _ _ _ lo hi s q (again _ _ (product s s).fits) (again _ _ (product s most).fits) (again _ _ (product most most).fits) (again-small _ _ (twice _ _ s q) (mod-lt _ (lit< tt))) none
