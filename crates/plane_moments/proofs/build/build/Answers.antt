-- `plane_moments::build::build` meets its contract: the tests of shapes, and then what is built of the sets. Assumes nothing.
use mathlib.Core.Path.{◌≡◌, sym, ◌∙◌}
use borrow.Author.Rules.{rules}
use Rattle.refusals.specs.Number.{number}
use Rattle.refusals.specs.Refusal.{refused_by}
use Rattle.refusals.proofs.Laws.{first-refused}
use Rattle.plane_moments.specs.Steps.{shape_refusal}
use Rattle.plane_moments.proofs.Laws.{in_two_parts, shape_whole}
use Rattle.plane_moments.proofs.build.build.Goals as goal

pub returns-in_err-shape_refusal : goal.returns-in_err-shape_refusal
returns-in_err-shape_refusal c =
    let a = c.args in
    let e : number c.from_residual.result ≡ shape_refusal a.dof a.frames.now a.fixed.now a.centred_frames.now a.centred_fixed.now = search rules in
    let some : number c.from_residual.result ≡ 0 → ⊥ = search rules in
    refused_by (in_two_parts _ _ _ _ _ _ ∙ first-refused _ _ _ e some) some

pub build_sets-requires : goal.build_sets-requires
build_sets-requires c =
    shape_whole _ _ _ _ _ (sym c.in_ok-shape_refusal.ensures)

pub returns : goal.returns
returns c =
    rw (in_two_parts _ _ _ _ _ _, sym c.in_ok-shape_refusal.ensures) c.build_sets.ensures
