-- `transform_maps::write_rows` meets its contract: in each arm as many numbers as the key says. Assumes nothing.
use Rattle.transform_maps.proofs.write_rows.Goals as goal

pub returns-in-3 : goal.returns-in-3
returns-in-3 c = rw c.in-3.is c.write.ensures

pub returns-in-6 : goal.returns-in-6
returns-in-6 c = rw c.in-6.is c.write-in-6.ensures
