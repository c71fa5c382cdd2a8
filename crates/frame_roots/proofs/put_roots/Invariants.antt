use Rattle.frame_roots.specs.Batch.{RootedWith}
use Rattle.frame_roots.proofs.put_roots.Given as goal

abbrev pub invariant-loop-k : goal.invariant-loop-k
invariant-loop-k l = RootedWith l.ds l.from l.fours l.k l.roots
