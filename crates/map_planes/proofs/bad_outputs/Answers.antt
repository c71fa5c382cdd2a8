-- `map_planes::bad_outputs` meets its contract. Assumes nothing.
use Prim.Native.Nat.{◌*◌, ◌≤◌}
use native.Mathlib.Omega.{arith}
use native.Mathlib.Nat.{mul-le-mul_right}
use borrow.Author.Tests.{eq-eqb, ne_eqb}
use Rattle.map_planes.specs.Linearize.{bad_outputs}
use borrow.Author.Rules.{rules}
use Rattle.map_planes.proofs.bad_outputs.Goals as goal

pub returns-then-residuals-n : goal.returns-then-residuals-n
unfolding bad_outputs
returns-then-residuals-n c = rw (ne_eqb _ _ c.if-residuals-n.true)

pub returns-then-cells-eq0 : goal.returns-then-cells-eq0
unfolding bad_outputs
returns-then-cells-eq0 c = rw (eq-eqb _ _ c.if-residuals-n.false, eq-eqb _ _ c.if-cells-eq0.true)

pub overflow_mul-result : goal.overflow_mul-result
overflow_mul-result c =
    let a = c.args in
    let most : a.width * a.n ≤ 9 * a.n = mul-le-mul_right a.n (search rules) in
    omega arith

pub returns : goal.returns
unfolding bad_outputs
returns c = rw (eq-eqb _ _ c.if-residuals-n.false, ne_eqb _ _ c.if-cells-eq0.false)
