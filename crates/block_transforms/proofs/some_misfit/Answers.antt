-- `block_transforms::some_misfit` meets its contract: the closure makes the test of one word. Assumes nothing.
use Rattle.std.proofs.Common.{rules, tests, arith, refl, ◌∙◌}
use Rattle.std.proofs.lemmas.Iterator.{YieldsList-from_range}
use Rattle.std.proofs.lemmas.Iterator.Search.{any_from_yields_List}
use Rattle.normal_blocks.proofs.Search.{list_any-below}
use Rattle.block_transforms.specs.Transform.{shape_at}
use Rattle.block_transforms.specs.Reasons.{misfit_at, some_misfit}
use Rattle.block_transforms.proofs.some_misfit.Goals as goal

pub returns : goal.returns
unfolding some_misfit misfit_at
returns c =
    let s = c.args in
    any_from_yields_List (misfit_at s.dof (shape_at s.shapes.now)) _ _ c.any.result c.any.ensures.ran
    (YieldsList-from_range 0 s.words s.words refl (omega arith)) (λ x b q k. search (rules, tests)) ∙ list_any-below _ s.words
