-- `strict_build::build_strict` meets its contract: 1, 2 and 3, then 13, then what is built of the sets. Assumes nothing.
use mathlib.Core.Path.{◌≡◌, sym, ◌∙◌}
use borrow.Author.Rules.{rules}
use Rattle.refusals.specs.Number.{number}
use Rattle.refusals.specs.Refusal.{refused, refused_by}
use Rattle.plane_moments.specs.Steps.{shape_refusal}
use Rattle.plane_moments.proofs.Laws.{shape_whole}
use Rattle.strict_build.proofs.Laws.{shape-refused, thirteen, sets_decide}
use Rattle.strict_build.proofs.build_strict.Goals as goal

pub returns-in_err-shape_refusal : goal.returns-in_err-shape_refusal
returns-in_err-shape_refusal c =
    let a = c.args in
    let e : number c.from_residual.result ≡ shape_refusal a.dof a.frames.now a.fixed.now a.centred_frames.now a.centred_fixed.now = search rules in
    let some : number c.from_residual.result ≡ 0 → ⊥ = search rules in
    refused_by (shape-refused _ _ _ _ _ _ _ e some) some

pub is_negative-requires : goal.is_negative-requires
is_negative-requires c =
    (shape_whole _ _ _ _ _ (sym c.in_ok-shape_refusal.ensures)).fixed_set

pub returns-then-is_negative : goal.returns-then-is_negative
returns-then-is_negative c =
    refused (thirteen _ _ _ _ _ _ (sym c.in_ok-shape_refusal.ensures) (sym c.is_negative.ensures ∙ c.if-is_negative.true))

pub build_sets-requires : goal.build_sets-requires
build_sets-requires c =
    shape_whole _ _ _ _ _ (sym c.in_ok-shape_refusal.ensures)

pub returns : goal.returns
returns c =
    rw (sets_decide _ _ _ _ _ _ (sym c.in_ok-shape_refusal.ensures) (sym c.is_negative.ensures ∙ c.if-is_negative.false)) c.build_sets.ensures
