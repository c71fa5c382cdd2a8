use mathlib.Core.Path.{◌≡◌}
use lib.ListN.{length}
use Rattle.terms.specs.Terms.{add_all, upto, column_at}
use Rattle.frame_pairs.specs.Pairs.{block_in}
use Rattle.frame_pairs.proofs.add_block.Given as goal

abbrev pub invariant-loop-j : goal.invariant-loop-j
invariant-loop-j l = (length l.h ≡ length l.initial.h) × (l.h ≡ add_all l.initial.h (upto l.j (column_at l.n l.at l.cols (block_in l.cols l.cells l.k))))
