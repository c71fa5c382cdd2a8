use Prim.Native.Nat.{◌+◌, ◌*◌}
use mathlib.Core.Path.{◌≡◌}
use Rattle.sums.specs.Sum.{tab}
use Rattle.block_transforms.specs.Transform.{entry_from}
use Rattle.transform_maps.specs.Multiply.{chained}
use Rattle.transform_maps.proofs.column.Given as goal

abbrev pub invariant-loop-k : goal.invariant-loop-k
invariant-loop-k l =
    (l.start ≡ l.from + l.c * l.inner) × (l.sums ≡ tab 9 (λ r. chained l.k (entry_from l.further 0 l.rows) (entry_from l.numbers l.from l.inner) r l.c))
