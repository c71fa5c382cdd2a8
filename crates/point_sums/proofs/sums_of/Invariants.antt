-- `point_sums::sums_of` goes through the points in order: at turn i the sums are those of the first i points.
use Rattle.std.proofs.Common.{◌≡◌}
use Rattle.point_sums.specs.Sums.{sums_of}
use Rattle.point_sums.proofs.sums_of.Given as goal

abbrev pub invariant-loop-i : goal.invariant-loop-i
invariant-loop-i l = l.sums ≡ sums_of l.i l.points
