use mathlib.Core.Path.{◌≡◌}
use mathlib.Core.List.{[], ◌∷◌}
use Rattle.sums.specs.Sum.{sum_from}
use Rattle.bundle_points.specs.Points.{spread}
use Rattle.bundle_points.proofs.add_spread.Given as goal

abbrev pub invariant-loop-p : goal.invariant-loop-p
invariant-loop-p l =
    let q = l.q0 ∷ l.q1 ∷ l.q2 ∷ [] in
    (l.xx ≡ sum_from l.initial.xx l.p-index (spread l.list q 0 0)) × (l.xy ≡ sum_from l.initial.xy l.p-index (spread l.list q 0 1)) × (l.xz ≡ sum_from l.initial.xz l.p-index (spread l.list q 0 2))
    × (l.yy ≡ sum_from l.initial.yy l.p-index (spread l.list q 1 1)) × (l.yz ≡ sum_from l.initial.yz l.p-index (spread l.list q 1 2)) × (l.zz ≡ sum_from l.initial.zz l.p-index (spread l.list q 2 2))
