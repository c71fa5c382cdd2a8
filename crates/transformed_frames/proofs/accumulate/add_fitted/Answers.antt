-- `transformed_frames::accumulate::add_fitted` meets its contract: without plane, or with all frames added. Assumes nothing.
use mathlib.Core.Path.{◌∙◌}
use Rattle.plane_moments.proofs.Accumulating.{accepted_call, no_plane_call, fit_is}
use Rattle.transformed_frames.proofs.Laws.{ready_call, all_call}
use Rattle.transformed_frames.proofs.accumulate.add_fitted.Goals as goal

pub fit_mean-mean-requires : goal.fit_mean-mean-requires
fit_mean-mean-requires c = (accepted_call _ _ _ c.requires).whole

pub smallest_axis-requires : goal.smallest_axis-requires
smallest_axis-requires c = (accepted_call _ _ _ c.requires).twelve

pub add_all-requires : goal.add_all-requires
add_all-requires c =
    (ready_call _ _ _ c.requires, (accepted_call _ _ _ c.requires).whole.fixed_whole)

pub returns-in-Some : goal.returns-in-Some
returns-in-Some c =
    λ x. all_call _ _ x _ _ _ _ _ _ c.requires (fit_is _ _ _ c.fit_mean-mean.ensures c.smallest_axis.ensures ∙ c.in-Some.is) c.weight-weight.ensures c.add_all.ensures

pub returns-in-None : goal.returns-in-None
returns-in-None c =
    λ x. no_plane_call _ _ x _ c.requires (fit_is _ _ _ c.fit_mean-mean.ensures c.smallest_axis.ensures ∙ c.in-None.is)
