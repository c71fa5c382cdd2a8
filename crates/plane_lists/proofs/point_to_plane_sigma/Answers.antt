-- `plane_lists::point_to_plane_sigma` meets its contract: the lengths, then the answer of `plane::point_to_plane_sigma`. Assumes nothing.
use mathlib.Core.Path.{sym, ◌∙◌}
use mathlib.Core.Bool.{or-true}
use borrow.Author.Tests.{eq-eqb, ne_eqb}
use Rattle.refusals.specs.Refusal.{refused}
use Rattle.refusals.proofs.Exits.{handed_on}
use Rattle.plane_lists.specs.Calls.{sigma_refusal}
use Rattle.plane_lists.proofs.Laws.{sigma-refused, sigma-found}
use Rattle.plane_lists.proofs.point_to_plane_sigma.Goals as goal

pub returns-in_default : goal.returns-in_default
unfolding sigma_refusal
returns-in_default c = refused (simp (ne_eqb _ _ c.in_default.ensures'''''.cases, or-true))

pub returns-in_default-2 : goal.returns-in_default-2
unfolding sigma_refusal
returns-in_default-2 c = refused (simp (ne_eqb _ _ c.in_default.ensures''''.cases, or-true))

pub returns-in_default-3 : goal.returns-in_default-3
unfolding sigma_refusal
returns-in_default-3 c = refused (simp (ne_eqb _ _ c.in_default.ensures'''.cases, or-true))

pub returns-in_default-4 : goal.returns-in_default-4
unfolding sigma_refusal
returns-in_default-4 c = refused (simp (ne_eqb _ _ c.in_default.ensures''.cases, or-true))

pub returns-in_default-5 : goal.returns-in_default-5
unfolding sigma_refusal
returns-in_default-5 c = refused (simp (ne_eqb _ _ c.in_default.ensures'.cases, or-true))

pub returns-in_default-6 : goal.returns-in_default-6
unfolding sigma_refusal
returns-in_default-6 c = refused (rw (ne_eqb _ _ c.in_default.ensures.cases))

pub returns-in_err-sigma : goal.returns-in_err-sigma
returns-in_err-sigma c =
    let p = c.in-Some-Some-Some-Some-Some-Some in
    handed_on c.from_residual.result _ c.from_residual.ensures.1
    (sigma-refused
    _
    (rw (
      eq-eqb _ _ p.ensures.cases.long,
      eq-eqb _ _ p.ensures'.cases.long,
      eq-eqb _ _ p.ensures''.cases.long,
      eq-eqb _ _ p.ensures'''.cases.long,
      eq-eqb _ _ p.ensures''''.cases.long,
      eq-eqb _ _ p.ensures'''''.cases.long,
    ))
    _
    (rw (
      c.from.ensures,
      p.ensures.cases.same,
      p.ensures'.cases.same,
      p.ensures''.cases.same,
      p.ensures'''.cases.same,
      p.ensures''''.cases.same,
      p.ensures'''''.cases.same,
    ) at (sym c.in_err-sigma.was ∙ c.point_to_plane_sigma.ensures)))

pub returns : goal.returns
returns c =
    let p = c.in-Some-Some-Some-Some-Some-Some in
    sigma-found
    _
    (rw (
      eq-eqb _ _ p.ensures.cases.long,
      eq-eqb _ _ p.ensures'.cases.long,
      eq-eqb _ _ p.ensures''.cases.long,
      eq-eqb _ _ p.ensures'''.cases.long,
      eq-eqb _ _ p.ensures''''.cases.long,
      eq-eqb _ _ p.ensures'''''.cases.long,
    ))
    _
    _
    (rw (
      c.from.ensures,
      p.ensures.cases.same,
      p.ensures'.cases.same,
      p.ensures''.cases.same,
      p.ensures'''.cases.same,
      p.ensures''''.cases.same,
      p.ensures'''''.cases.same,
    ) at (sym c.in_ok-sigma.was ∙ c.point_to_plane_sigma.ensures))
