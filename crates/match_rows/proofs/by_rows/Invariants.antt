use Prim.Native.Nat.{◌*◌, ◌+◌}
use mathlib.Core.Path.{◌≡◌}
use lib.ListN.{length, take}
use Rattle.sums.specs.Sum.{grid}
use Rattle.match_rows.specs.ByRows.{by_rows_at}
use Rattle.match_rows.proofs.by_rows.Given as goal

abbrev pub invariant-loop-c : goal.invariant-loop-c
invariant-loop-c l =
    (length l.t ≡ 108) × (take (l.e * 9 + l.c) l.t ≡ take (l.e * 9 + l.c) (grid 9 12 (by_rows_at l.x)))

abbrev pub invariant-loop-e : goal.invariant-loop-e
invariant-loop-e l = (length l.t ≡ 108) × (take (l.e * 9) l.t ≡ take (l.e * 9) (grid 9 12 (by_rows_at l.x)))
