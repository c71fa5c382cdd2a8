-- `transformed_matches::add_sums` meets its contract: block and vector as they stand, or laid by rows and through the transform. Assumes nothing.
use mathlib.Core.Path.{refl, sym, ◌∙◌}
use native.Mathlib.Omega.{arith}
use borrow.Author.Rules.{rules}
use Rattle.transform_products.proofs.Laws.{there_room}
use Rattle.transformed_matches.proofs.Laws.{plain_added, laid_added}
use Rattle.transformed_matches.proofs.add_sums.Goals as goal

pub add_block-requires : goal.add_block-requires
add_block-requires c =
    let pre = c.requires in
    let none = sym c.shape_at.ensures ∙ c.in-None.is in
    (rw none at pre.1, pre.2, pre.0, omega (arith, pre.0, pre.4))

pub add_run-requires : goal.add_run-requires
add_run-requires c =
    let pre = c.requires in
    let none = sym c.shape_at.ensures ∙ c.in-None.is in
    (rw none at pre.1, omega (arith, pre.0, pre.5))

pub lay-requires : goal.lay-requires
lay-requires c =
    let pre = c.requires in
    let there = pre.3 _ _ (sym c.shape_at.ensures ∙ c.in-Some.is) in
    omega (arith, there.1, pre.0)

pub add_other-requires : goal.add_other-requires
add_other-requires c =
    let pre = c.requires in
    let sized = sym c.shape_at.ensures ∙ c.in-Some.is in
    let there = pre.3 _ _ sized in (
      omega (arith, there.1, pre.0),
      there.0,
      search rules,
      omega (arith, there.1, pre.0),
      there_room _ _ _ 0 _ pre.0 there.0 there.1 there.2,
      rw sized at pre.1,
      pre.2,
      refl,
      refl,
    )

pub returns-in-None : goal.returns-in-None
returns-in-None c =
    let none = sym c.shape_at.ensures ∙ c.in-None.is in
    plain_added _ _ _ _ _ _ _ _ _ _ _ none c.add_block.ensures c.add_run.ensures

pub returns-in-Some : goal.returns-in-Some
returns-in-Some c =
    let sized = sym c.shape_at.ensures ∙ c.in-Some.is in
    laid_added _ _ _ _ _ _ _ _ _ _ _ _ _ _ _ sized (c.requires.3 _ _ sized).1 c.lay.ensures c.add_other.ensures
