use Rattle.lists.specs.Part.{◌!◌}
use Rattle.frame_pairs.specs.Pairs.{Put}
use Rattle.frame_pairs.proofs.put.Given as goal

abbrev pub invariant-loop-i : goal.invariant-loop-i
invariant-loop-i l = Put l.k l.e l.i (λ d. l.v ! d) l.initial.cells l.cells
