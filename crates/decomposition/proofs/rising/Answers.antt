-- `decomposition::rising` meets its contract: the places that the total order gives are below 3. Assumes nothing.
use native.Mathlib.Omega.{arith}
use Prim.Native.Nat.{ℕ, ◌<◌}
use mathlib.Core.Path.{◌≡◌}
use Rattle.total_order.specs.declared.Order.{Order}
use Rattle.total_order.specs.Three.{order_of}
use Rattle.total_order.proofs.ThreeLaws.{of_three}
use Rattle.decomposition.specs.Axes.{rising_of}
use Rattle.decomposition.proofs.rising.Goals as goal

below : (a b c : ℕ) (o : Order) → o ≡ order_of a b c → (o.first < 3) × (o.second < 3) × (o.third < 3)
below a b c o e =
    let h = of_three a b c in
    rw e (h.first_below, h.second_below, h.third_below)

pub returns : goal.returns
unfolding rising_of
returns c =
    rw (c.vector-normal.ensures, c.value-third.ensures, c.value-second.ensures, c.value-first.ensures, c.order_of_three-o.ensures)

pub value-first-requires : goal.value-first-requires
value-first-requires c = omega (arith, (below _ _ _ _ c.order_of_three-o.ensures).0)

pub value-second-requires : goal.value-second-requires
value-second-requires c = omega (arith, (below _ _ _ _ c.order_of_three-o.ensures).1)

pub value-third-requires : goal.value-third-requires
value-third-requires c = omega (arith, (below _ _ _ _ c.order_of_three-o.ensures).2)

pub vector-normal-requires : goal.vector-normal-requires
vector-normal-requires c = omega (arith, (below _ _ _ _ c.order_of_three-o.ensures).0)
