-- `frame_cost::weight` meets its contract. Assumes nothing.
use mathlib.Core.Path.{refl}
use Rattle.frame_cost.specs.Cost.{weight_of}
use Rattle.frame_cost.proofs.weight.Goals as goal

pub returns : goal.returns
unfolding weight_of
returns c = refl
