use Prim.Native.Nat.{◌+◌, ◌*◌}
use Rattle.point_moments.specs.Moments.{MOMENTS}
use Rattle.cards.specs.Card.{GROUPED}
use Rattle.cards.specs.Steps.{PlacedFrom, Carried}
use Rattle.cards.proofs.writing.write_two.Given as goal

abbrev pub invariant-loop-f : goal.invariant-loop-f
invariant-loop-f l =
    let k = l.g * GROUPED + l.r * MOMENTS in
    Carried l.moments l.card (k + l.f) × PlacedFrom l.moments l.card (k + MOMENTS) (k + MOMENTS + l.f)
