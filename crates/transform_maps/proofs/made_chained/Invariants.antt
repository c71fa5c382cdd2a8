use mathlib.Core.Path.{◌≡◌}
use Rattle.block_transforms.specs.Transform.{entry_from}
use Rattle.transform_maps.specs.Multiply.{chained, newly_made}
use Rattle.transform_maps.proofs.made_chained.Given as goal

abbrev pub invariant-loop-c : goal.invariant-loop-c
invariant-loop-c l = l.made ≡ newly_made l.rows l.c (chained l.inner (entry_from l.further 0 l.rows) (entry_from l.numbers l.from l.inner))
