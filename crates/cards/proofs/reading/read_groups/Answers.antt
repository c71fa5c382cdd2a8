-- `cards::reading::read_groups` meets its contract: after g turns the numbers of g groups are at their places. Assumes nothing.
use Prim.Native.Nat.{◌+◌, ◌*◌}
use mathlib.Core.Path.{◌≡◌}
use native.Mathlib.Omega.{arith}
use Rattle.cards.specs.Card.{GROUPED}
use Rattle.cards.proofs.Carried.{none_yet}
use Rattle.cards.proofs.reading.read_groups.Goals as goal

pub loop-g-init : goal.loop-g-init
loop-g-init c = (none_yet c.args.moments.now c.args.card.now c.requires.0)

pub read_group-requires : goal.read_group-requires
read_group-requires c =
    let at = c.loop-g in
    let pre = c.requires in
    (omega (arith, pre.1), at.invariant)

pub loop-g-preserved : goal.loop-g-preserved
loop-g-preserved c =
    let at = c.loop-g in
    let e : at.g * GROUPED + GROUPED ≡ (at.g + 1) * GROUPED = omega arith in
    (rw e at c.read_group.ensures)

pub returns : goal.returns
returns c =
    let at = c.loop-g in
    let groups = c.args.groups in
    let e : at.g ≡ groups = omega arith in
    rw e at at.invariant
