-- `transform_maps::copy_or_fill` meets its contract. Assumes nothing.
use mathlib.Core.Path.{sym, ◌∙◌}
use mathlib.Core.Logic.{⊎_elim}
use Rattle.transform_maps.proofs.Laws.{else_empty, else_there}
use Rattle.transform_maps.proofs.copy_or_fill.Goals as goal

pub returns-then-list-eq0 : goal.returns-then-list-eq0
returns-then-list-eq0 g c = c.fill.ensures.after c.requires.copies ∙ else_empty _ _ _ c.if-list-eq0.true

pub copy_from_slice-requires : goal.copy_from_slice-requires
copy_from_slice-requires g c = ⊎_elim (λ e. absurd (c.if-list-eq0.false e)) (λ e. sym e) c.requires.sizes

pub returns : goal.returns
returns g c = c.copy_from_slice.ensures.after ∙ else_there _ _ _ c.if-list-eq0.false
