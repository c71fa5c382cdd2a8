-- `transform_maps::Call::multiply` meets its contract: what is made, then the shapes and the numbers. Assumes nothing.
use mathlib.Core.Path.{◌≡◌, sym, ap, ap₂, ◌∙◌}
use mathlib.Core.Logic.{⊎_elim, inl, inr}
use native.Mathlib.Omega.{arith}
use Rattle.block_transforms.specs.Transform.{width_under}
use Rattle.block_transforms.proofs.Laws.{beside_fits}
use Rattle.transform_maps.specs.Multiply.{made_columns}
use Rattle.transform_maps.specs.Given.{work_of}
use Rattle.transform_maps.proofs.Laws.{accepted_work, old-known, made_narrow, multiplied}
use Rattle.transform_maps.proofs.Call.multiply.Goals as goal
use Rattle.transform_maps.proofs.Call.multiply.Goals.{After-width_under-cols}

-- how wide what is made is
wide : (c : After-width_under-cols) → c.width_under-cols.result ≡ made_columns (work_of c.args.self.now)
wide c = c.width_under-cols.ensures ∙ ap₂ width_under c.old-old.ensures (c.width_under.ensures ∙ ap (λ s. width_under s 0) c.new.ensures)

pub make-made-requires : goal.make-made-requires
make-made-requires c =
    let ok = c.requires in
    let known = wide (goal.at.make-made-requires c).After-width_under-cols in
    let a = accepted_work _ _ _ ok in (
      a.narrow,
      rw known (made_narrow _ _ _ ok),
      a.further_long,
      λ inner width e.
          let k = old-known _ _ _ ok inner width (sym c.old-old.ensures ∙ e) in
          (k.0 ∙ sym known, k.1, k.2),
    )

pub overflow_cast-shape : goal.overflow_cast-shape
overflow_cast-shape c = omega (arith, wide (goal.at.overflow_cast-shape c).After-width_under-cols, made_narrow _ _ _ c.requires)

pub replace-requires : goal.replace-requires
replace-requires c =
    let a = accepted_work _ _ _ c.requires in
    (omega arith, (tt, ((λ x e. e), (⊎_elim (λ p. inl p.0) (λ p. inr p.0) (beside_fits _ _ _ a.slices), a.shapes_long))))

pub replace-requires-2 : goal.replace-requires-2
replace-requires-2 c =
    let a = accepted_work _ _ _ c.requires in
    (omega arith, (tt, ((λ x e. e), (⊎_elim (λ p. inl p.1) (λ p. inr p.1) (beside_fits _ _ _ a.slices), a.numbers_long))))

pub returns : goal.returns
returns c =
    multiplied (work_of c.args.self.now) _ _ _ _ _ c.replace.ensures c.replace-2.ensures (wide (goal.at.returns c).After-width_under-cols) c.old-old.ensures c.make-made.ensures
