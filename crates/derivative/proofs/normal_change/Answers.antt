-- `derivative::normal_change` meets its contract: a column of the matrix of coordinate k. Assumes nothing.
use Rattle.derivative.specs.Derivative.{normal_row}
use Rattle.derivative.proofs.normal_change.Goals as goal

pub returns : goal.returns
unfolding normal_row
returns c = rw c.normal_entry.ensures
