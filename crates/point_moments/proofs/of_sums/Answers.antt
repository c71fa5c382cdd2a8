-- `point_moments::of_sums` meets its contract: the sums at their places. Assumes nothing.
use Rattle.point_moments.proofs.of_sums.Goals as goal

pub returns : goal.returns
returns c = rw c.number.ensures
