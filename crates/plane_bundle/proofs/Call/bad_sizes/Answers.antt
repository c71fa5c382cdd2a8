-- `plane_bundle::Call::bad_sizes` meets its contract: the tests in their order. Assumes nothing.
use Prim.Native.Nat.{ℕ, ◌+◌, ◌*◌, ◌≤◌}
use native.Mathlib.Nat.{mul-le-mul_right}
use native.Mathlib.Omega.{arith}
use lib.ListN.{length}
use borrow.Author.Tests.{eq-eqb, ne_eqb}
use Rattle.bundle_points.specs.Points.{point_count}
use Rattle.plane_bundle.specs.Steps.{bad_sizes}
use Rattle.plane_bundle.proofs.Call.bad_sizes.Goals as goal

few : (frames dof : ℕ) → frames ≤ 256 → dof ≤ 9 → frames * dof ≤ 2304
few frames dof f d = omega (arith, mul-le-mul_right dof f)

pub returns-then-self-site : goal.returns-then-self-site
unfolding bad_sizes
returns-then-self-site c = rw (ne_eqb _ _ c.if-self-site.true)

pub returns-then-self-ne-DECOMPOSITION : goal.returns-then-self-ne-DECOMPOSITION
unfolding bad_sizes
returns-then-self-ne-DECOMPOSITION c = rw (eq-eqb _ _ c.if-self-site.false, ne_eqb _ _ c.if-self-ne-DECOMPOSITION.true)

pub returns-then-residuals-rows : goal.returns-then-residuals-rows
unfolding bad_sizes
returns-then-residuals-rows c = rw (eq-eqb _ _ c.if-self-site.false, eq-eqb _ _ c.if-self-ne-DECOMPOSITION.false, ne_eqb _ _ c.if-residuals-rows.true)

pub returns-then-cells-eq0 : goal.returns-then-cells-eq0
unfolding bad_sizes
returns-then-cells-eq0 c =
    rw (eq-eqb _ _ c.if-self-site.false, eq-eqb _ _ c.if-self-ne-DECOMPOSITION.false, eq-eqb _ _ c.if-residuals-rows.false, eq-eqb _ _ c.if-cells-eq0.true)

pub overflow_mul-result : goal.overflow_mul-result
overflow_mul-result c = omega (arith, mul-le-mul_right c.args.self.now.dof c.requires.1)

pub overflow_mul-result-2 : goal.overflow_mul-result-2
overflow_mul-result-2 c =
    let p = c.args.self.now.points in
    omega (arith, mul-le-mul_right (point_count p.site.now + point_count p.fixed.now) (few (length p.counts.now) c.args.self.now.dof c.requires.1 c.requires.0))

pub returns : goal.returns
unfolding bad_sizes
returns c =
    rw (eq-eqb _ _ c.if-self-site.false, eq-eqb _ _ c.if-self-ne-DECOMPOSITION.false, eq-eqb _ _ c.if-residuals-rows.false, ne_eqb _ _ c.if-cells-eq0.false)

pub overflow_mul-site : goal.overflow_mul-site
overflow_mul-site c =
    let n : point_count c.args.self.now.points.site.now ≤ 65536 = omega (arith, c.requires.2) in
    omega (arith, mul-le-mul_right c.args.self.now.dof n)

pub overflow_mul-site-2 : goal.overflow_mul-site-2
overflow_mul-site-2 c =
    let n : point_count c.args.self.now.points.site.now ≤ 65536 = omega (arith, c.requires.2) in
    omega (arith, mul-le-mul_right c.args.self.now.dof n)
