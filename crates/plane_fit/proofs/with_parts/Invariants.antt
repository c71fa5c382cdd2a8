use mathlib.Core.Path.{◌≡◌}
use Rattle.plane_fit.specs.Parts.{with_parts}
use Rattle.plane_fit.proofs.with_parts.Given as goal

abbrev pub invariant-loop-k : goal.invariant-loop-k
invariant-loop-k l = l.r.entries ≡ with_parts l.initial.r.entries l.a l.b l.c l.k
