-- `transformed_matches::accumulate` meets its contract: the tests in their order, then one frame added. Assumes nothing.
use mathlib.Core.Path.{refl, sym, ap₂, ◌∙◌}
use mathlib.Core.Bool.{◌||◌}
use Rattle.refusals.proofs.Exits.{some_number}
use Rattle.map_planes.specs.Calls.{fit}
use Rattle.map_planes.proofs.Accumulating.{list_refuses, map_decides}
use Rattle.transformed_matches.proofs.Laws.{ready, handed_on, list_added}
use Rattle.transformed_matches.proofs.accumulate.Goals as goal

pub returns-in_err-matches_refusal : goal.returns-in_err-matches_refusal
returns-in_err-matches_refusal c =
    handed_on _ _ _ _ _ _ c.from_residual.result _ c.from_residual.ensures.1
    (list_refuses _ _ _ _ _ (ap₂ ◌||◌ c.bad_target-target.ensures c.bad_beside-slices.ensures) c.in_err-matches_refusal.ensures (some_number _))

pub returns-in_err-through_refusal : goal.returns-in_err-through_refusal
returns-in_err-through_refusal c =
    handed_on _ _ _ _ _ _ c.from_residual-in_err-through_refusal.result _ c.from_residual-in_err-through_refusal.ensures.1
    (c.in_err-through_refusal.ensures ∙ sym (map_decides _ _ _ _ _ (ap₂ ◌||◌ c.bad_target-target.ensures c.bad_beside-slices.ensures) c.in_ok-matches_refusal.ensures refl))

pub unwrap-x-requires : goal.unwrap-x-requires
unwrap-x-requires c = c.as_array.ensures.variant.1 (fit _ _ _ _ (sym c.in_ok-matches_refusal.ensures)).action_size_lem

pub add_list-requires : goal.add_list-requires
add_list-requires c =
    rw (rw c.unwrap-x.ensures at c.as_array.ensures.cases).same
    (ready _ _ (record { work = record { dof = _; matches = _; action = _; map = _ }; shapes = _; transforms = _ })
    (map_decides _ _ _ _ _ (ap₂ ◌||◌ c.bad_target-target.ensures c.bad_beside-slices.ensures) c.in_ok-matches_refusal.ensures refl ∙ sym c.in_ok-through_refusal.ensures))

pub returns : goal.returns
returns c =
    list_added _ _ _ _ _ _ _ _ _
    (map_decides _ _ _ _ _ (ap₂ ◌||◌ c.bad_target-target.ensures c.bad_beside-slices.ensures) c.in_ok-matches_refusal.ensures refl ∙ sym c.in_ok-through_refusal.ensures)
    (rw (rw c.unwrap-x.ensures at c.as_array.ensures.cases).same at c.add_list.ensures)
