-- `plane_bundle::linearize` meets its contract: the tests in their order, or the rows. Assumes nothing.
use mathlib.Core.Path.{◌≡◌, sym, ap, ◌∙◌}
use mathlib.Core.Bool.{not}
use mathlib.Core.List.{[], ◌∷◌}
use lib.ListN.{length}
use Rattle.refusals.specs.Refusal.{refused, accepted, first_of, ◌when◌}
use Rattle.refusals.proofs.Exits.{some_number, handed_on}
use Rattle.validate.specs.Finite.{finite_positive}
use Rattle.plane_bundle.specs.Calls.{not_finite}
use Rattle.plane_bundle.specs.Linearize.{Bundle, linearize_refusal}
use Rattle.plane_bundle.specs.Steps.{Fitting}
use Rattle.plane_bundle.proofs.Linearized.{refused-shape, passed_shape}
use Rattle.plane_bundle.proofs.linearize.Goals as goal
use Rattle.plane_bundle.proofs.linearize.Goals.{Start, In_ok-shape_refusal, After-some_not_finite}

-- what the call was handed
abbrev handed : Start → Bundle
handed s = record { dof = s.args.dof; counts = s.args.counts.now; points = s.args.points.now; d_state = s.args.d_state.now; fixed = s.args.fixed.now; sigma = s.args.sigma; decomposition = s.args.decomposition.now }

pub returns-in_err-shape_refusal : goal.returns-in_err-shape_refusal
returns-in_err-shape_refusal c =
    handed_on c.from_residual.result _ c.from_residual.ensures.1
    (refused-shape (handed (goal.at.returns-in_err-shape_refusal c).Start) _ _ _ (some_number _) (sym c.in_err-shape_refusal.ensures))

-- what is known once 1 to 5 are tested
passed : (e : In_ok-shape_refusal) → let b = handed (goal.at.In_ok-shape_refusal e).Start in
    Fitting b (length e.args.residual.now) (length e.args.jacobian.now)
    × (linearize_refusal b (length e.args.residual.now) (length e.args.jacobian.now) ≡ first_of (6 when not_finite e.args.points.now e.args.fixed.now ∷ 7 when not (finite_positive e.args.sigma) ∷ []))
passed e = passed_shape (handed (goal.at.In_ok-shape_refusal e).Start) _ _ (sym e.in_ok-shape_refusal.ensures)

-- and 6
finite : (r : After-some_not_finite) → not_finite r.args.points.now r.args.fixed.now ≡ r.some_not_finite.result
unfolding not_finite
finite r = sym (rw (r.new-cloud.ensures.0, r.new-cloud.ensures.1) at r.some_not_finite.ensures)

pub returns-then-some_not_finite : goal.returns-then-some_not_finite
returns-then-some_not_finite c =
    let at = goal.at.returns-then-some_not_finite c in
    refused ((passed at.In_ok-shape_refusal).1 ∙ rw (finite at.After-some_not_finite ∙ c.if-some_not_finite.true))

pub returns-then-not-is_positive : goal.returns-then-not-is_positive
returns-then-not-is_positive c =
    let at = goal.at.returns-then-not-is_positive c in
    refused ((passed at.In_ok-shape_refusal).1 ∙ rw (finite at.After-some_not_finite ∙ c.if-some_not_finite.false, ap not (sym c.is_positive.ensures ∙ c.if-not-is_positive.true)))

pub returns : goal.returns
returns c =
    let at = goal.at.returns c in
    accepted ((passed at.In_ok-shape_refusal).1 ∙ rw (finite at.After-some_not_finite ∙ c.if-some_not_finite.false, ap not (sym c.is_positive.ensures ∙ c.if-not-is_positive.false))) c.write.ensures

pub new-cloud-requires : goal.new-cloud-requires
new-cloud-requires c = (passed (goal.at.new-cloud-requires c).In_ok-shape_refusal).0.shaped.taken

pub write-requires-clause-fitting : goal.write-requires-clause-fitting
write-requires-clause-fitting c = (passed (goal.at.write-requires-clause-fitting c).In_ok-shape_refusal).0
