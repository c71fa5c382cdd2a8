-- `square_root::settle` meets its contract: r rises while the next square is at most n, below 2 ^ 27 as n is below 2 ^ 54. Assumes nothing.
use Rattle.std.proofs.Common.{ℕ, ◌+◌, ◌*◌, ◌^◌, ◌<◌, ◌≤◌, le_trans, lt_of_not-le, not-le_of_lt, arith}
use Rattle.square_root.proofs.Karatsuba.{squares}
use Rattle.square_root.proofs.Products.{square_fits}
use Rattle.square_root.proofs.settle.Goals as goal

-- the root of a number below 2 ^ 54
root_lt : (n r : ℕ) → (n < 2 ^ 54) × (r * r ≤ n) → r < 2 ^ 27
root_lt n r h = lt_of_not-le (λ (g : 2 ^ 27 ≤ r). not-le_of_lt h.0 (le_trans (squares g) h.1))

pub at_most-r-requires : goal.at_most-r-requires
at_most-r-requires c = c.requires.1

pub loop-r-init : goal.loop-r-init
loop-r-init c = (c.requires.0, c.at_most-r.ensures)

pub overflow_add-r : goal.overflow_add-r
overflow_add-r c = omega (arith, root_lt _ c.loop-r.r c.loop-r.invariant)

pub overflow_add-r-in-loop-r : goal.overflow_add-r-in-loop-r
overflow_add-r-in-loop-r c = omega (arith, root_lt _ c.loop-r.r c.loop-r.invariant)

pub overflow_mul-r : goal.overflow_mul-r
overflow_mul-r c = square_fits (c.loop-r.r + 1) (omega (arith, root_lt _ c.loop-r.r c.loop-r.invariant))

pub overflow_add-r-in-loop-r-2 : goal.overflow_add-r-in-loop-r-2
overflow_add-r-in-loop-r-2 c = omega (arith, root_lt _ c.loop-r.r c.loop-r.invariant)

pub loop-r-smaller : goal.loop-r-smaller
loop-r-smaller c = omega (arith, root_lt _ c.loop-r.r c.loop-r.invariant)

pub loop-r-preserved : goal.loop-r-preserved
loop-r-preserved c = (c.loop-r.invariant.0, c.loop-r-test.true)

pub returns : goal.returns
returns c = record { low = c.loop-r.invariant.1; high = c.loop-r-test.false }
