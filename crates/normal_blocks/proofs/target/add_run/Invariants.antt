use mathlib.Core.Path.{◌≡◌}
use lib.ListN.{length}
use Rattle.terms.specs.Terms.{add_all, upto, cell_at}
use Rattle.normal_blocks.specs.Target.{number_from}
use Rattle.normal_blocks.proofs.target.add_run.Given as goal

abbrev pub invariant-loop-r : goal.invariant-loop-r
invariant-loop-r l =
    (length l.h ≡ length l.initial.h) × (l.h ≡ add_all l.initial.h (upto l.r (cell_at l.base (number_from l.v l.from))))
