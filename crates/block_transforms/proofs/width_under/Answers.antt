-- `block_transforms::width_under` meets its contract: dof without a transform, and with one as many as it has columns. Assumes nothing.
use Rattle.block_transforms.proofs.width_under.Goals as goal

pub returns-in-None : goal.returns-in-None
returns-in-None c = rw c.in-None.is

pub returns-in-Some : goal.returns-in-Some
returns-in-Some c = rw c.in-Some.is
