-- `probe::probe_order_of_three` meets its contract: each place is below 3, so the digits fit. Assumes nothing.
use mathlib.Core.Path.{ap}
use native.Mathlib.Omega.{arith}
use Rattle.total_order.specs.Three.{pattern_at, Rises}
use Rattle.total_order.proofs.ThreeLaws.{of_three}
use Rattle.probe.specs.Digits.{digits_of}
use Rattle.probe.proofs.probe_order_of_three.Goals as goal
use Rattle.probe.proofs.probe_order_of_three.Goals.{After-order_of_three-o}

-- the three places, each below 3
places : (c : After-order_of_three-o) → Rises (pattern_at c.args.a c.args.b c.args.c) c.order_of_three-o.result
places c = rw c.order_of_three-o.ensures (of_three c.args.a c.args.b c.args.c)

pub overflow_mul-result : goal.overflow_mul-result
overflow_mul-result c = omega (arith, (places (goal.at.overflow_mul-result c).After-order_of_three-o).first_below)

pub overflow_mul-result-2 : goal.overflow_mul-result-2
overflow_mul-result-2 c = omega (arith, (places (goal.at.overflow_mul-result-2 c).After-order_of_three-o).second_below)

pub overflow_add-result : goal.overflow_add-result
overflow_add-result c = let o = places (goal.at.overflow_add-result c).After-order_of_three-o in omega (arith, o.first_below, o.second_below)

pub overflow_add-result-2 : goal.overflow_add-result-2
overflow_add-result-2 c = let o = places (goal.at.overflow_add-result-2 c).After-order_of_three-o in omega (arith, o.first_below, o.second_below, o.third_below)

pub overflow_cast-result : goal.overflow_cast-result
overflow_cast-result c = let o = places (goal.at.overflow_cast-result c).After-order_of_three-o in omega (arith, o.first_below, o.second_below, o.third_below)

pub returns : goal.returns
unfolding digits_of
returns c = ap digits_of c.order_of_three-o.ensures
