use mathlib.Core.Path.{◌≡◌}
use Rattle.plane_fit.specs.Steps.{weighed}
use Rattle.plane_fit.proofs.weigh.Given as goal

abbrev pub invariant-loop-k : goal.invariant-loop-k
invariant-loop-k l = l.s ≡ weighed l.frames l.actions l.k
