-- `point_sums::sums_of` meets its contract: no points have no sums. Assumes nothing.
use Rattle.std.proofs.Common.{rules}
use Rattle.point_sums.specs.Sums.{sums_of}
use Rattle.point_sums.proofs.sums_of.Goals as goal

pub loop-i-init : goal.loop-i-init
unfolding sums_of
loop-i-init c = search rules
