-- `plane_bundle::fit` meets its contract: the tests in their order, or the fit written. Assumes nothing.
use mathlib.Core.Path.{◌≡◌, sym, ap, ◌∙◌}
use mathlib.Core.List.{List, [], ◌++◌}
use lib.ListN.{length}
use lib.Ieee.{Float}
use borrow.Author.Tests.{eqb-true, not-false}
use Rattle.refusals.specs.Refusal.{refused, accepted}
use Rattle.refusals.proofs.Exits.{some_number, handed_on}
use Rattle.lists.specs.Part.{part}
use Rattle.bundle_points.specs.Points.{centroid, scatter, fit_of}
use Rattle.bundle_points.specs.Steps.{Taken}
use Rattle.plane_bundle.specs.Calls.{not_finite}
use Rattle.plane_bundle.specs.Fit.{fit_refusal}
use Rattle.plane_bundle.proofs.Laws.{shaped, shape-refused, shape_passed}
use Rattle.plane_bundle.proofs.fit.Goals as goal
use Rattle.plane_bundle.proofs.fit.Goals.{In_ok-fit_refusal}

told : (all q s list : List Float) → q ≡ centroid all → s ≡ scatter all q → list ≡ part 3 q 0 ++ part 9 s 0 → list ≡ fit_of all
unfolding centroid scatter
told all q s list e f g = rw (g, f, e)

pub returns-in_err-fit_refusal : goal.returns-in_err-fit_refusal
unfolding fit_refusal
returns-in_err-fit_refusal c =
    handed_on c.from_residual.result _ c.from_residual.ensures.1 (shape-refused _ _ _ _ [] _ (some_number _) (sym c.in_err-fit_refusal.ensures))

-- what is known once 2 to 5 are tested
taken : (e : In_ok-fit_refusal) → let a = e.args in Taken a.points.now a.fixed.now
taken e = (shaped _ _ _ (shape_passed _ _ _ _ [] (sym e.in_ok-fit_refusal.ensures)).0).taken

pub returns-then-some_not_finite : goal.returns-then-some_not_finite
unfolding fit_refusal not_finite
returns-then-some_not_finite c =
    let test = rw (c.new-cloud.ensures.0, c.new-cloud.ensures.1) at (sym c.some_not_finite.ensures ∙ c.if-some_not_finite.true) in
    refused ((shape_passed _ _ _ _ [] (sym c.in_ok-fit_refusal.ensures)).2 ∙ rw test)

pub returns : goal.returns
unfolding fit_refusal not_finite
returns c =
    let same = c.new-cloud.ensures in
    let test = rw (same.0, same.1) at (sym c.some_not_finite.ensures ∙ c.if-some_not_finite.false) in
    accepted ((shape_passed _ _ _ _ [] (sym c.in_ok-fit_refusal.ensures)).2 ∙ rw test)
    (c.copy_from_slice.ensures.after ∙ told _ _ _ _ (rw (same.0, same.1) at c.centroid-q.ensures) (rw (same.0, same.1) at c.scatter-s.ensures) c.three_and_nine.ensures)

pub new-cloud-requires : goal.new-cloud-requires
new-cloud-requires c = taken c

pub copy_from_slice-requires : goal.copy_from_slice-requires
copy_from_slice-requires c = eqb-true _ 12 (not-false _ (shape_passed _ _ _ _ [] (sym c.in_ok-fit_refusal.ensures)).1) ∙ sym (ap length c.three_and_nine.ensures)
