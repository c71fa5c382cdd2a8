-- `plane_moments::linearize::write_fitted` meets its contract: without plane, or all rows and blocks under the plane. Assumes nothing.
use native.Mathlib.Omega.{arith}
use lib.ListN.{length}
use Rattle.frame_roots.specs.Roots.{decomposition_whole}
use Rattle.plane_moments.specs.Linearize.{accepted_call, plane_call, no_plane_call}
use Rattle.plane_moments.proofs.linearize.write_fitted.Goals as goal

pub fit_mean-mean-requires : goal.fit_mean-mean-requires
fit_mean-mean-requires c =
    let a = c.args in
    let known = accepted_call a.dof a.frames.now a.fixed.now a.sigma a.actions.now a.decompositions.now (length a.residual.now) (length a.jacobian.now) c.requires in
    known.whole

pub decomposition_at-requires : goal.decomposition_at-requires
decomposition_at-requires c =
    let a = c.args in
    let known = accepted_call a.dof a.frames.now a.fixed.now a.sigma a.actions.now a.decompositions.now (length a.residual.now) (length a.jacobian.now) c.requires in
    omega (arith, known.room.ds_enough)

pub smallest_axis-requires : goal.smallest_axis-requires
smallest_axis-requires c =
    let a = c.args in
    let known = accepted_call a.dof a.frames.now a.fixed.now a.sigma a.actions.now a.decompositions.now (length a.residual.now) (length a.jacobian.now) c.requires in
    rw c.decomposition_at.ensures (decomposition_whole a.decompositions.now 0 (omega (arith, known.room.ds_enough)))

pub write_all-requires : goal.write_all-requires
write_all-requires c =
    let a = c.args in
    let known = accepted_call a.dof a.frames.now a.fixed.now a.sigma a.actions.now a.decompositions.now (length a.residual.now) (length a.jacobian.now) c.requires in
    (rw c.wanted-width.ensures known.room, known.fixed_room)

pub returns-in-Some : goal.returns-in-Some
returns-in-Some c =
    let a = c.args in
    plane_call a.dof a.frames.now a.fixed.now a.sigma a.actions.now a.decompositions.now a.residual.now a.jacobian.now c.requires _ _ c.smallest_axis.result c.fit_mean-mean.ensures c.decomposition_at.ensures c.smallest_axis.ensures _ c.wanted-width.result _ _ c.in-Some.is c.wanted-width.ensures c.write_all.ensures.0 c.write_all.ensures.1

pub returns-in-None : goal.returns-in-None
returns-in-None c =
    let a = c.args in
    no_plane_call a.dof a.frames.now a.fixed.now a.sigma a.actions.now a.decompositions.now a.residual.now a.jacobian.now c.requires _ _ c.smallest_axis.result c.fit_mean-mean.ensures c.decomposition_at.ensures c.smallest_axis.ensures _ _ c.in-None.is c.clear.ensures c.clear-in-None.ensures
