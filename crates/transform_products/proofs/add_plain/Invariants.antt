use mathlib.Core.Path.{◌≡◌}
use lib.ListN.{length}
use Rattle.terms.specs.Terms.{add_all, upto, column_at}
use Rattle.transform_products.specs.Rows.{rows_of}
use Rattle.transform_products.proofs.add_plain.Given as goal

abbrev pub invariant-loop-j : goal.invariant-loop-j
invariant-loop-j l = (length l.h ≡ length l.initial.h) × (l.h ≡ add_all l.initial.h (upto l.j (column_at l.n l.at l.width (rows_of l.stride l.m))))
