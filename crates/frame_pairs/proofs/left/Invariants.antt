use Rattle.sums.specs.Fill.{Filling}
use Rattle.lists.specs.Part.{◌!◌}
use Rattle.block_transforms.specs.Transform.{entry_from, transformed_vector}
use Rattle.frame_pairs.proofs.left.Given as goal

abbrev pub invariant-loop-i : goal.invariant-loop-i
invariant-loop-i l = Filling 9 l.cols (transformed_vector l.rows (entry_from l.t l.at l.rows) (λ q. l.x ! q)) l.row l.i
