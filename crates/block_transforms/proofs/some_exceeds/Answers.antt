-- `block_transforms::some_exceeds` meets its contract: the closure makes the test of one frame. Assumes nothing.
use Rattle.std.proofs.Common.{rules, tests, arith, refl, ◌∙◌}
use Rattle.std.proofs.lemmas.Iterator.{YieldsList-from_range}
use Rattle.std.proofs.lemmas.Iterator.Search.{any_from_yields_List}
use Rattle.normal_blocks.specs.Map.{lookup, exceeds_at, some_exceeds}
use Rattle.normal_blocks.proofs.Search.{list_any-below}
use Rattle.block_transforms.specs.Transform.{shape_at, width_at}
use Rattle.block_transforms.proofs.some_exceeds.Goals as goal

pub returns : goal.returns
unfolding some_exceeds exceeds_at width_at
returns c =
    let s = c.args in
    any_from_yields_List (exceeds_at s.n (width_at (shape_at s.shapes.now) s.dof) (lookup s.map.now)) _ _ c.any.result c.any.ensures.ran
    (YieldsList-from_range 0 s.count s.count refl (omega arith)) (λ x b q k. search (rules, tests)) ∙ list_any-below _ s.count
