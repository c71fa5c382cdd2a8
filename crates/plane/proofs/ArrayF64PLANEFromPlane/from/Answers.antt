-- `From<Plane> for [f64; PLANE]` meets its contract: the numbers in their order. Assumes nothing.
use mathlib.Core.Path.{refl}
use Rattle.plane.proofs.ArrayF64PLANEFromPlane.from.Goals as goal

pub returns : goal.returns
returns c = refl
