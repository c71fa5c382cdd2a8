-- `transform_maps::some_wide` meets its contract: the closure makes the test of one word. Assumes nothing.
use Rattle.std.proofs.Common.{rules, tests, arith, refl, ◌∙◌}
use Rattle.std.proofs.lemmas.Iterator.{YieldsList-from_range}
use Rattle.std.proofs.lemmas.Iterator.Search.{any_from_yields_List}
use Rattle.normal_blocks.proofs.Search.{list_any-below}
use Rattle.block_transforms.specs.Transform.{shape_at}
use Rattle.transform_maps.specs.Multiply.{wide_at, some_wide}
use Rattle.transform_maps.proofs.some_wide.Goals as goal

pub returns : goal.returns
unfolding some_wide wide_at
returns c =
    let s = c.args in
    any_from_yields_List (wide_at (shape_at s.shapes.now)) _ _ c.any.result c.any.ensures.ran
    (YieldsList-from_range 0 s.words s.words refl (omega arith)) (λ x b q k. search (rules, tests)) ∙ list_any-below _ s.words
