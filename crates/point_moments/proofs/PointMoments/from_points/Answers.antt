-- `point_moments::PointMoments::from_points` meets its contract: the sums of the list's points, and how many there are. Assumes nothing.
use Prim.Native.Nat.{◌/◌, ◌%◌, ◌≤◌}
use mathlib.Core.Path.{◌≡◌, sym}
use mathlib.Core.Bool.{not, ◌||◌}
use mathlib.Core.List.{List}
use native.Mathlib.Omega.{arith}
use lib.Dec.{eqb, ltb}
use lib.ListN.{length}
use lib.Ieee.{Float}
use borrow.Author.Tests.{ltb-false}
use Rattle.refusals.specs.Refusal.{first_of, none, either_none}
use Rattle.point_moments.specs.Moments.{MOST_POINTS, point_reasons}
use Rattle.point_moments.proofs.Sums.{points_sums}
use Rattle.point_moments.proofs.PointMoments.from_points.Goals as goal

few : (p : List Float) → first_of (point_reasons p) ≡ 0 → length p / 3 ≤ MOST_POINTS
unfolding point_reasons
few p h =
    let parts = not (eqb (length p % 3) 0) in
    let many = ltb MOST_POINTS (length p / 3) in
    ltb-false MOST_POINTS (length p / 3) (either_none parts many (none (parts || many) 2 0 h).0).1

pub of_sums-requires : goal.of_sums-requires
of_sums-requires c = few _ c.requires

pub returns : goal.returns
returns c =
    let l = few _ c.requires in
    rw (c.of_sums.ensures, c.sums_of.ensures) (sym (points_sums _ c.args.points.now (omega arith)))
