use mathlib.Core.List.{[], ◌∷◌}
use lib.ListN.{get_or}
use lib.Ieee.{nan}
use Rattle.sums.specs.Fill.{Filling}
use Rattle.derivative.specs.Derivative.{shifted, rows}
use Rattle.derivative.proofs.shifted_row.Given as goal

abbrev pub invariant-loop-i : goal.invariant-loop-i
invariant-loop-i l = Filling 9 l.width (shifted (λ i. get_or l.o i nan) (rows l.a l.b l.c) (l.p0 ∷ l.p1 ∷ l.p2 ∷ [])) l.row l.i
