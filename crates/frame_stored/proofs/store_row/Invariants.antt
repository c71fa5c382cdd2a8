use mathlib.Core.List.{[], ◌∷◌}
use Rattle.sums.specs.Fill.{Writing}
use Rattle.frame_stored.specs.Stored.{row_entry}
use Rattle.frame_stored.proofs.store_row.Given as goal

abbrev pub invariant-loop-j : goal.invariant-loop-j
invariant-loop-j l = Writing l.initial.out l.base l.width (row_entry l.r (l.s0 ∷ l.s1 ∷ l.s2 ∷ []) l.t l.count l.weight) l.out l.j
