use mathlib.Core.Path.{◌≡◌}
use lib.ListN.{length, take}
use Rattle.normal_blocks.specs.Map.{remapped}
use Rattle.normal_blocks.proofs.write_remapped.Given as goal

abbrev pub invariant-loop-k : goal.invariant-loop-k
invariant-loop-k l = (length l.out ≡ length l.list) × (take l.k l.out ≡ take l.k (remapped l.map l.list))
