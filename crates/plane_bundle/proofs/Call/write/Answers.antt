-- `plane_bundle::Call::write` meets its contract: zeros without a plane, and else the residuals and the Jacobian under it. Assumes nothing.
use Prim.Native.Nat.{◌+◌}
use mathlib.Core.Path.{◌≡◌, sym, ◌∙◌}
use borrow.Author.Tests.{eqb-true, eqb-false}
use Rattle.bundle_points.specs.Points.{point_count}
use Rattle.plane_bundle.specs.Linearize.{rows}
use Rattle.plane_bundle.specs.Given.{bundle_of}
use Rattle.plane_bundle.proofs.Linearized.{counted-rows, jacobian_room, no_plane, rows-alone, rows-and_cells}
use Rattle.plane_bundle.proofs.Call.write.Goals as goal
use Rattle.plane_bundle.proofs.Call.write.Goals.{Start}

-- how many points the cloud has
counted : (c : Start) → let p = c.args.cloud.now in point_count p.site.now + point_count p.fixed.now ≡ rows (bundle_of c.args.self.now)
counted c =
    rw (c.requires.of_the_points.0, c.requires.of_the_points.1) (counted-rows (bundle_of c.args.self.now) _ _ c.requires.fitting)

pub rising-axes-requires : goal.rising-axes-requires
rising-axes-requires c = c.requires.fitting.patterns_whole

pub write_residuals-requires : goal.write_residuals-requires
write_residuals-requires c = c.requires.fitting.residuals_whole ∙ sym (counted (goal.at.write_residuals-requires c).Start)

pub returns-then-axes : goal.returns-then-axes
returns-then-axes c =
    no_plane (bundle_of c.args.self.now) c.args.residual.now c.args.jacobian.now c.rising-axes.result c.rising-axes.ensures _ _ c.if-axes.true c.clear.ensures c.clear-then-axes.ensures

pub returns-then-is_empty : goal.returns-then-is_empty
returns-then-is_empty c =
    let same = c.requires.of_the_points in
    let b = bundle_of c.args.self.now in
    rows-alone b c.args.residual.now c.args.jacobian.now _ c.rising-axes.ensures c.if-axes.false _ (rw (same.0, same.1) at c.centroid.ensures) _ (counted-rows b _ _ c.requires.fitting)
    _ (rw (same.0, same.1) at c.write_residuals.ensures) (eqb-true _ 0 (sym c.is_empty.ensures ∙ c.if-is_empty.true))

pub write_jacobian-requires : goal.write_jacobian-requires
write_jacobian-requires c =
    jacobian_room (bundle_of c.args.self.now) _ _ c.requires.fitting _ (c.count.ensures ∙ counted (goal.at.write_jacobian-requires c).Start) (eqb-false _ 0 (sym c.is_empty.ensures ∙ c.if-is_empty.false))

pub returns : goal.returns
returns c =
    let same = c.requires.of_the_points in
    let b = bundle_of c.args.self.now in
    rows-and_cells b c.args.residual.now c.args.jacobian.now _ c.rising-axes.ensures c.if-axes.false _ (rw (same.0, same.1) at c.centroid.ensures) _ (counted-rows b _ _ c.requires.fitting)
    _ (rw (same.0, same.1) at c.write_residuals.ensures) _ _ (c.count.ensures ∙ counted (goal.at.returns c).Start) (eqb-false _ 0 (sym c.is_empty.ensures ∙ c.if-is_empty.false)) c.write_jacobian.ensures
