use mathlib.Core.Path.{◌≡◌}
use Rattle.refusals.specs.Refusal.{first_of}
use Rattle.terms.specs.Terms.{upto}
use Rattle.map_planes.specs.Calls.{reasons_at}
use Rattle.map_planes.proofs.list_refusal.Given as goal

abbrev pub invariant-loop-k : goal.invariant-loop-k
invariant-loop-k l = first_of (upto l.k (reasons_at l.list)) ≡ 0
