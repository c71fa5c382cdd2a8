use Rattle.plane_fit.specs.Parts.{Held}
use Rattle.plane_fit.proofs.fill_parts.Given as goal

abbrev pub invariant-loop-k : goal.invariant-loop-k
invariant-loop-k l = Held l.frames l.actions l.mean l.from l.k l.a l.b l.c
