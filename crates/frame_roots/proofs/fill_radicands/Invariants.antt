use Rattle.frame_roots.specs.Batch.{Radicands}
use Rattle.frame_roots.proofs.fill_radicands.Given as goal

abbrev pub invariant-loop-k : goal.invariant-loop-k
invariant-loop-k l = Radicands l.frames l.ds l.from l.k l.fours
