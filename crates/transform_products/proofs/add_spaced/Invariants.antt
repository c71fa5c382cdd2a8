use mathlib.Core.Path.{◌≡◌}
use lib.ListN.{length}
use Rattle.terms.specs.Terms.{add_all, upto, cell_at}
use Rattle.transform_products.specs.Rows.{spaced}
use Rattle.transform_products.proofs.add_spaced.Given as goal

abbrev pub invariant-loop-i : goal.invariant-loop-i
invariant-loop-i l =
    (length l.g ≡ length l.initial.g) × (l.g ≡ add_all l.initial.g (upto l.i (cell_at l.at (spaced l.stride l.a l.from))))
