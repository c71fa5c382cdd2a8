use mathlib.Core.Path.{◌≡◌}
use lib.ListN.{length}
use Rattle.sums.specs.Sum.{◌⊗◌, sum_to}
use Rattle.terms.specs.Terms.{add_all, upto, column_at}
use Rattle.block_transforms.specs.Transform.{entry_from}
use Rattle.transform_products.specs.Rows.{rows_of}
use Rattle.transform_products.proofs.add_columns.Given as goal

abbrev pub invariant-loop-j : goal.invariant-loop-j
invariant-loop-j l =
    (length l.h ≡ length l.initial.h) × (l.h ≡ add_all l.initial.h (upto l.j (column_at l.n l.at l.cols (λ i j. sum_to l.rows (λ k. rows_of l.stride l.u i k ⊗ entry_from l.t l.from l.rows k j)))))
