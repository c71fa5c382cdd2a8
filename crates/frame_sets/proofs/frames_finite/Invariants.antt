use Prim.Native.Nat.{◌*◌}
use mathlib.Core.Path.{◌≡◌}
use lib.ListN.{drop}
use Rattle.validate.specs.Finite.{all_finite}
use Rattle.point_moments.specs.Moments.{MOMENTS}
use Rattle.frame_sets.proofs.frames_finite.Given as goal

abbrev pub invariant-loop-k : goal.invariant-loop-k
invariant-loop-k l = all_finite (drop (MOMENTS * l.k) l.frames) ≡ all_finite l.frames
