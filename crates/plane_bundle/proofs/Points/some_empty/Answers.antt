-- `plane_bundle::Points::some_empty` meets its contract: the closure makes the test of one count. Assumes nothing.
use Rattle.std.proofs.Common.{rules, tests, ◌∙◌}
use Rattle.std.specs.Prelude.{eqb}
use Rattle.std.proofs.lemmas.Iterator.{YieldsList-from_slice}
use Rattle.std.proofs.lemmas.Iterator.Search.{any_from_yields_List}
use Rattle.plane_bundle.specs.Calls.{empty_at, some_empty}
use Rattle.plane_bundle.proofs.Laws.{any_somewhere}
use Rattle.plane_bundle.proofs.Points.some_empty.Goals as goal

pub returns : goal.returns
unfolding some_empty empty_at
returns c =
    any_from_yields_List (λ n. eqb n 0) _ _ c.any.result c.any.ensures.ran (YieldsList-from_slice c.args.self.now.counts.now cc) (λ x b q k. search (rules, tests)) ∙ any_somewhere (λ n. eqb n 0) c.args.self.now.counts.now
