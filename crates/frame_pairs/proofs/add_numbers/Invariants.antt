use Prim.Native.Nat.{◌+◌}
use mathlib.Core.Path.{◌≡◌}
use lib.ListN.{length}
use Rattle.terms.specs.Terms.{add_all, upto, cell_at}
use Rattle.frame_pairs.specs.Pairs.{lane}
use Rattle.frame_pairs.proofs.add_numbers.Given as goal

abbrev pub invariant-loop-i : goal.invariant-loop-i
invariant-loop-i l =
    (length l.h ≡ length l.initial.h) × (l.h ≡ add_all l.initial.h (upto l.i (cell_at l.at (λ i. lane l.cells l.k (l.e + i)))))
