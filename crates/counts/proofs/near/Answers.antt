-- `counts::near` meets its contract: the two tests are its own. Assumes nothing.
use mathlib.Core.Path.{refl}
use Rattle.counts.specs.Near.{near}
use Rattle.counts.proofs.near.Goals as goal

pub returns : goal.returns
unfolding near
returns c = refl
