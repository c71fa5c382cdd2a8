-- `frame_cost::set_pull` meets its contract: what the callees give, put together. Assumes nothing.
use Rattle.frame_cost.specs.Cost.{scatter_on, cost_of}
use Rattle.frame_cost.proofs.set_pull.Goals as goal

pub returns : goal.returns
unfolding scatter_on cost_of
returns c = rw (c.dot3.ensures, c.mat_vec-turn.ensures)
