-- `plane_moments::linearize::bad_outputs` meets its contract: the residuals, then the Jacobian. Assumes nothing.
use Prim.Native.Nat.{ℕ, ◌+◌, ◌*◌, ◌≤◌}
use native.Mathlib.Nat.{mul-le-mul}
use native.Mathlib.Omega.{arith}
use borrow.Author.Tests.{eq-eqb, ne_eqb}
use Rattle.plane_moments.specs.Linearize.{bad_outputs}
use Rattle.plane_moments.proofs.linearize.bad_outputs.Goals as goal

pub returns-then-residuals-rows : goal.returns-then-residuals-rows
unfolding bad_outputs
returns-then-residuals-rows c = rw (ne_eqb _ _ c.if-residuals-rows.true)

pub returns-then-cells-eq0 : goal.returns-then-cells-eq0
unfolding bad_outputs
returns-then-cells-eq0 c = rw (eq-eqb _ _ c.if-residuals-rows.false, eq-eqb _ _ c.if-cells-eq0.true)

-- at most 256 frames of at most 9 columns
columns : (count dof : ℕ) → count ≤ 256 → dof ≤ 9 → count * dof ≤ 2304
columns count dof h j = mul-le-mul h j

cells : (count dof : ℕ) → count ≤ 256 → dof ≤ 9 → count * dof * ((count + 1) * 4) ≤ 2368512
cells count dof h j =
    let rows : (count + 1) * 4 ≤ 1028 = omega arith in
    mul-le-mul (columns count dof h j) rows

pub returns : goal.returns
unfolding bad_outputs
returns c = rw (eq-eqb _ _ c.if-residuals-rows.false, ne_eqb _ _ c.if-cells-eq0.false)
