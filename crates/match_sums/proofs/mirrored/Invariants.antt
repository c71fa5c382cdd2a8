use Rattle.lists.specs.Part.{◌!◌}
use Prim.Native.Nat.{◌*◌, ◌+◌}
use mathlib.Core.Path.{◌≡◌}
use lib.ListN.{length, take}
use Rattle.sums.specs.Sum.{grid}
use Rattle.match_sums.specs.Cells.{upper_place}
use Rattle.match_sums.proofs.mirrored.Given as goal

abbrev pub invariant-loop-i : goal.invariant-loop-i
invariant-loop-i l =
    (length l.out ≡ 81) × (take (l.j * 9 + l.i) l.out ≡ take (l.j * 9 + l.i) (grid 9 9 (λ i j. l.h ! upper_place i j)))

abbrev pub invariant-loop-j : goal.invariant-loop-j
invariant-loop-j l = (length l.out ≡ 81) × (take (l.j * 9) l.out ≡ take (l.j * 9) (grid 9 9 (λ i j. l.h ! upper_place i j)))
