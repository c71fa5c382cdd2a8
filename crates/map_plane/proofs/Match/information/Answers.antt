-- `map_plane::Match::information` meets its contract. Assumes nothing.
use mathlib.Core.Path.{refl}
use Rattle.map_plane.proofs.Match.information.Goals as goal

pub returns : goal.returns
returns c = refl
