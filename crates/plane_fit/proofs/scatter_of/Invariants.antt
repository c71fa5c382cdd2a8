use mathlib.Core.Path.{◌≡◌}
use Prim.Native.Nat.{◌≤◌, ◌-◌}
use Rattle.plane_fit.specs.Steps.{spread_upto}
use Rattle.plane_fit.proofs.scatter_of.Given as goal

abbrev pub invariant-loop-from : goal.invariant-loop-from
invariant-loop-from l =
    (l.from ≤ l.count) × (l.s.entries ≡ spread_upto l.frames l.actions l.mean l.from)

abbrev pub decreases-loop-from : goal.decreases-loop-from
decreases-loop-from l = l.count - l.from
