-- `transform_maps::too_wide` meets its contract. Assumes nothing.
use Rattle.transform_maps.specs.Multiply.{too_wide}
use Rattle.transform_maps.proofs.too_wide.Goals as goal

pub returns-in-Some : goal.returns-in-Some
unfolding too_wide
returns-in-Some c = rw c.in-Some.is

pub returns-in-None : goal.returns-in-None
unfolding too_wide
returns-in-None c = rw c.in-None.is
