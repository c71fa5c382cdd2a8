-- `square_root::at_most` meets its contract: r falls, below 2 ^ 27, until its square is at most n. Assumes nothing.
use Rattle.std.proofs.Common.{ℕ, zero, suc, ◌*◌, ◌<◌, not-suc-le-zero, le_of_lt, zero-lt-suc, arith}
use Rattle.square_root.proofs.Products.{square_fits}
use Rattle.square_root.proofs.at_most.Goals as goal

-- a number whose square is above another is above 0
sq_pos : (n r : ℕ) → n < r * r → zero < r
sq_pos n zero h = absurd (not-suc-le-zero h)
sq_pos n (suc k) h = zero-lt-suc k

pub loop-r-init : goal.loop-r-init
loop-r-init c = c.requires

pub overflow_mul-r : goal.overflow_mul-r
overflow_mul-r c = square_fits c.loop-r.r (le_of_lt c.loop-r.invariant)

pub overflow_sub-r : goal.overflow_sub-r
overflow_sub-r c = sq_pos c.args.n c.loop-r.r c.loop-r-test.true

pub loop-r-smaller : goal.loop-r-smaller
loop-r-smaller c = omega (arith, sq_pos c.args.n c.loop-r.r c.loop-r-test.true)

pub returns : goal.returns
returns c = c.loop-r-test.false
