use Rattle.std.proofs.Common.{◌^◌, ◌<◌}
use Rattle.square_root.proofs.at_most.Given as goal

abbrev pub invariant-loop-r : goal.invariant-loop-r
invariant-loop-r l = l.r < 2 ^ 27

abbrev pub decreases-loop-r : goal.decreases-loop-r
decreases-loop-r l = l.r
