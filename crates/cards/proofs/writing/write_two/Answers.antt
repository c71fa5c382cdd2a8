-- `cards::writing::write_two` meets its contract: after each turn one number more of either record is at its place. Assumes nothing.
use Prim.Native.Nat.{◌+◌, ◌*◌}
use mathlib.Core.Path.{◌≡◌, refl, ap, ◌∙◌}
use native.Mathlib.Nat.{add-zero}
use native.Mathlib.Omega.{arith}
use borrow.Author.Rules.{rules}
use lib.ListN.{length, get_or, set, length-set}
use Rattle.point_moments.specs.Moments.{MOMENTS}
use Rattle.cards.specs.Card.{GROUPED}
use Rattle.cards.proofs.EachPlace.{place_of_lem}
use Rattle.cards.proofs.Carried.{put_step, two_more, joined}
use Rattle.cards.proofs.writing.write_two.Goals as goal

pub loop-f-init : goal.loop-f-init
loop-f-init c = let pre = c.requires in (rw add-zero pre.2, λ i a b. absurd (omega arith))

pub bounds-card-group-in-loop-f : goal.bounds-card-group-in-loop-f
bounds-card-group-in-loop-f c = simp length-set (search rules)

pub loop-f-preserved : goal.loop-f-preserved
loop-f-preserved c =
    let at = c.loop-f in
    let l = c.args.moments.now in
    let g = c.args.g in
    let r = c.args.r in
    let f = at.f in
    let k = g * GROUPED + r * MOMENTS in
    let same = at.invariant.0.0 in
    let p = ap (λ o. g * GROUPED + o) c.place.ensures ∙ place_of_lem (length l) g f r (k + f) c.requires.0 (search rules) (search rules) refl in
    let q = ap (λ o. g * GROUPED + o) c.place-in-loop-f.ensures ∙ place_of_lem (length l) g f (r + 1) (k + MOMENTS + f) c.requires.0 (search rules) (search rules) (omega arith) in
    let d = set at.card (g * GROUPED + c.place.result) (get_or l (k + f) 0) in
    let size : length d ≡ length l = length-set at.card _ _ ∙ same in
    let one = put_step l at.card (k + f) _ _ same (search rules) p refl in
    let other = put_step l d (k + MOMENTS + f) _ _ size (search rules) q refl in
    let two = two_more (k + f) (k + MOMENTS + f) (k + MOMENTS) (k + (f + 1)) (k + MOMENTS + (f + 1)) (omega arith) (omega arith) (omega arith) (omega arith) one other at.invariant.0.1 at.invariant.1 in
    ((length-set d _ _ ∙ size, two.0), two.1)

pub returns : goal.returns
returns c =
    let at = c.loop-f in
    let k = c.args.g * GROUPED + c.args.r * MOMENTS in
    let e : at.f ≡ MOMENTS = omega arith in
    let end : k + MOMENTS + MOMENTS ≡ c.args.g * GROUPED + (c.args.r + 2) * MOMENTS = omega arith in
    rw end at (joined c.args.moments.now at.card (k + MOMENTS) (k + MOMENTS + MOMENTS) (rw e at at.invariant.0) (rw e at at.invariant.1))
