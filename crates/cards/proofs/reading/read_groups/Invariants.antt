use Prim.Native.Nat.{◌*◌}
use Rattle.cards.specs.Card.{GROUPED}
use Rattle.cards.specs.Steps.{Carried}
use Rattle.cards.proofs.reading.read_groups.Given as goal

abbrev pub invariant-loop-g : goal.invariant-loop-g
invariant-loop-g l = Carried l.moments l.card (l.g * GROUPED)
