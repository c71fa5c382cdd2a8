use mathlib.Core.Path.{◌≡◌}
use lib.ListN.{length}
use Rattle.terms.specs.Terms.{add_all, upto, column_at}
use Rattle.normal_blocks.specs.Target.{entry_of}
use Rattle.normal_blocks.proofs.target.add_block.Given as goal

abbrev pub invariant-loop-c : goal.invariant-loop-c
invariant-loop-c l =
    (length l.h ≡ length l.initial.h) × (l.h ≡ add_all l.initial.h (upto l.c (column_at l.n l.offset l.width (entry_of l.stride l.b))))
