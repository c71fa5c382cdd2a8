use mathlib.Core.List.{[], ◌∷◌}
use Rattle.sums.specs.Fill.{Filling}
use Rattle.frame_segment.specs.Steps.{rows_vector}
use Rattle.frame_segment.proofs.Rows.vector.Given as goal

abbrev pub invariant-loop-i : goal.invariant-loop-i
invariant-loop-i l = Filling 9 l.width (rows_vector l.self (l.s0 ∷ l.s1 ∷ l.s2 ∷ []) l.t l.weight) l.v l.i
