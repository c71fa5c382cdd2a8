use Rattle.lists.specs.Part.{◌!◌}
use mathlib.Core.Path.{◌≡◌}
use lib.ListN.{length}
use Rattle.sums.specs.Sum.{◌⊗◌}
use Rattle.match_sums.specs.Cells.{Raised, Upper}
use Rattle.match_sums.proofs.add_row.Given as goal

abbrev pub invariant-loop-c : goal.invariant-loop-c
invariant-loop-c g l =
    (length l.u.block ≡ 81) × (length l.u.vector ≡ 9) × Upper l.c (λ i. l.row ! i) l.initial.u.block l.u.block × Raised 0 l.c (λ i. l.row ! i ⊗ l.r) l.initial.u.vector l.u.vector
