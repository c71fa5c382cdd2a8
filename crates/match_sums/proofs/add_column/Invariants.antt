use Rattle.lists.specs.Part.{◌!◌}
use Prim.Native.Nat.{◌*◌}
use mathlib.Core.Path.{◌≡◌}
use lib.ListN.{length}
use Rattle.sums.specs.Sum.{◌⊗◌}
use Rattle.match_sums.specs.Cells.{Raised}
use Rattle.match_sums.proofs.add_column.Given as goal

abbrev pub invariant-loop-i : goal.invariant-loop-i
invariant-loop-i g l =
    (l.from ≡ l.c * 9) × (length l.h ≡ 81) × Raised l.from l.i (λ k. l.row ! k ⊗ l.a) l.initial.h l.h
