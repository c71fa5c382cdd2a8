use Rattle.frame_pairs.specs.Pairs.{Parts}
use Rattle.frame_pairs.proofs.parts.Given as goal

abbrev pub invariant-loop-q : goal.invariant-loop-q
invariant-loop-q g l = Parts g.row.COLS l.frames l.actions l.transforms l.plane.normal l.plane.offset l.weight l.q l.cells
