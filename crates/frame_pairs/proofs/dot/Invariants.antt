use mathlib.Core.Path.{◌≡◌}
use Rattle.sums.specs.Sum.{◌⊗◌, sum_to}
use Rattle.lists.specs.Part.{◌!◌}
use Rattle.normal_blocks.specs.Target.{number_from}
use Rattle.frame_pairs.proofs.dot.Given as goal

abbrev pub invariant-loop-r : goal.invariant-loop-r
invariant-loop-r l = l.sum ≡ sum_to l.r (λ q. number_from l.t l.from q ⊗ (l.x ! q))
