use mathlib.Core.Path.{◌≡◌}
use Rattle.sums.specs.Sum.{sum_from_zero}
use Rattle.normal_blocks.specs.Somewhere.{somewhere}
use Rattle.frame_sets.specs.Sets.{count_at, empty_at}
use Rattle.frame_sets.proofs.sum_counts.Given as goal

abbrev pub invariant-loop-k : goal.invariant-loop-k
invariant-loop-k l = (l.sum ≡ sum_from_zero l.k (count_at l.frames)) × (l.empty ≡ somewhere l.k (empty_at l.frames))
