use mathlib.Core.Path.{◌≡◌}
use mathlib.Core.Bool.{◌&&◌}
use lib.ListN.{drop}
use Rattle.validate.specs.Finite.{all_finite}
use Rattle.validate.proofs.all_finite.Given as goal

abbrev pub invariant-loop-x : goal.invariant-loop-x
invariant-loop-x l = l.all && all_finite (drop l.x-index l.list) ≡ all_finite l.list
