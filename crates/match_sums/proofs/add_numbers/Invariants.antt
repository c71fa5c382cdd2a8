use Rattle.lists.specs.Part.{◌!◌}
use mathlib.Core.Path.{◌≡◌}
use lib.ListN.{length}
use Rattle.match_sums.specs.Cells.{Raised}
use Rattle.match_sums.proofs.add_numbers.Given as goal

abbrev pub invariant-loop-i : goal.invariant-loop-i
invariant-loop-i g l = (length l.a ≡ g.row.N) × Raised 0 l.i (λ k. l.b ! k) l.initial.a l.a
