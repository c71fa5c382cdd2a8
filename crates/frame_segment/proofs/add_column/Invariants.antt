use mathlib.Core.List.{[], ◌∷◌}
use mathlib.Core.Path.{◌≡◌}
use lib.ListN.{length}
use Rattle.terms.specs.Terms.{add_all, upto, cell_at}
use Rattle.frame_segment.specs.Steps.{column_entry}
use Rattle.frame_segment.proofs.add_column.Given as goal

abbrev pub invariant-loop-i : goal.invariant-loop-i
invariant-loop-i l =
    (length l.h ≡ length l.initial.h) × (l.h ≡ add_all l.initial.h (upto l.i (cell_at l.base (column_entry l.r (l.s0 ∷ l.s1 ∷ l.s2 ∷ []) l.t l.count l.weight))))
