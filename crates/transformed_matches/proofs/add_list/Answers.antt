-- `transformed_matches::add_list` meets its contract: block and vector at the place of word 0, or the cost alone. Assumes nothing.
use mathlib.Core.Path.{refl, sym, ◌∙◌}
use Rattle.normal_blocks.proofs.Laws.{fits_at}
use Rattle.transformed_matches.proofs.Laws.{list_mapped, list_unmapped}
use Rattle.transformed_matches.proofs.add_list.Goals as goal

pub add_sums-requires : goal.add_sums-requires
add_sums-requires c =
    let pre = c.requires in
    let at = sym c.lookup.ensures ∙ c.in-Some.is in
    let are = c.match_sums-sums.ensures in
    (pre.narrow, fits_at _ _ _ _ at pre.fits, pre.square, pre.there, are.block_size, are.vector_size)

pub returns-in-Some : goal.returns-in-Some
returns-in-Some c =
    let at = sym c.lookup.ensures ∙ c.in-Some.is in
    list_mapped _ _ _ _ _ _ _ _ _ _ _ _ _ _ at (λ rows cols sized. (c.requires.there rows cols sized).1) c.match_sums-sums.ensures refl c.add_sums.ensures

pub returns-in-None : goal.returns-in-None
returns-in-None c = list_unmapped _ _ _ _ _ _ _ _ _ _ (sym c.lookup.ensures ∙ c.in-None.is) c.cost.ensures
