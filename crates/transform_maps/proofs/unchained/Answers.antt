-- `transform_maps::unchained` meets its contract. Assumes nothing.
use Rattle.transform_maps.specs.Multiply.{unchained}
use Rattle.transform_maps.proofs.unchained.Goals as goal

pub returns-in-Some : goal.returns-in-Some
unfolding unchained
returns-in-Some c = rw c.in-Some.is

pub returns-in-None : goal.returns-in-None
unfolding unchained
returns-in-None c = rw c.in-None.is
