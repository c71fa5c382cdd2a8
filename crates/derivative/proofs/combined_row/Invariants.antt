use mathlib.Core.List.{[], ◌∷◌}
use Rattle.sums.specs.Fill.{Filling}
use Rattle.derivative.specs.Derivative.{combined, rows}
use Rattle.derivative.proofs.combined_row.Given as goal

abbrev pub invariant-loop-i : goal.invariant-loop-i
invariant-loop-i l = Filling 9 l.width (combined (rows l.a l.b l.c) (l.s0 ∷ l.s1 ∷ l.s2 ∷ [])) l.row l.i
