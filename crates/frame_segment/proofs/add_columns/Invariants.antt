use mathlib.Core.Path.{◌≡◌}
use lib.ListN.{length}
use Rattle.terms.specs.Terms.{add_all}
use Rattle.frame_segment.specs.Columns.{columns}
use Rattle.frame_segment.specs.Steps.{rows_entry}
use Rattle.frame_segment.proofs.add_columns.Given as goal

abbrev pub invariant-loop-c : goal.invariant-loop-c
invariant-loop-c l =
    (length l.h ≡ length l.initial.h) × (l.h ≡ add_all l.initial.h (columns l.n l.at l.width (rows_entry l.r l.count l.weight) l.first l.c))
