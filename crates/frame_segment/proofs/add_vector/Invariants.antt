use mathlib.Core.List.{[], ◌∷◌}
use mathlib.Core.Path.{◌≡◌}
use lib.ListN.{length}
use Rattle.terms.specs.Terms.{add_all, upto, cell_at}
use Rattle.frame_segment.specs.Steps.{rows_vector}
use Rattle.frame_segment.proofs.add_vector.Given as goal

abbrev pub invariant-loop-i : goal.invariant-loop-i
invariant-loop-i l =
    (length l.g ≡ length l.initial.g) × (l.g ≡ add_all l.initial.g (upto l.i (cell_at l.at (rows_vector l.r (l.s0 ∷ l.s1 ∷ l.s2 ∷ []) l.t l.weight))))
