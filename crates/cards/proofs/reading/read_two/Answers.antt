-- `cards::reading::read_two` meets its contract: after each turn one number more of either record has been read. Assumes nothing.
use Prim.Native.Nat.{ℕ, ◌+◌, ◌*◌, ◌≤◌}
use mathlib.Core.Path.{◌≡◌, refl, sym, ap, ◌∙◌}
use native.Mathlib.Nat.{add-zero}
use native.Mathlib.Omega.{arith}
use borrow.Author.Rules.{rules}
use lib.ListN.{length, get_or, set, length-set}
use Rattle.point_moments.specs.Moments.{MOMENTS}
use Rattle.cards.specs.Card.{GROUPED, place_of}
use Rattle.cards.proofs.EachPlace.{place_of_lem}
use Rattle.cards.proofs.Carried.{read_step, two_more, joined}
use Rattle.cards.proofs.reading.read_two.Goals as goal

pub loop-f-init : goal.loop-f-init
loop-f-init c = let pre = c.requires in (rw add-zero pre.2, λ i a b. absurd (omega arith))

pub bounds-moments-second : goal.bounds-moments-second
bounds-moments-second c = simp length-set (search rules)

pub loop-f-preserved : goal.loop-f-preserved
loop-f-preserved c =
    let at = c.loop-f in
    let card = c.args.card.now in
    let l = at.moments in
    let g = c.args.g in
    let r = c.args.r in
    let f = at.f in
    let k = g * GROUPED + r * MOMENTS in
    let same = at.invariant.0.0 in
    let whole : g * GROUPED + GROUPED ≤ length l = omega (arith, c.requires.0, same) in
    let at_place : ℕ → ℕ = λ q. get_or card q 0 in
    let v = at_place (g * GROUPED + c.place.result) in
    let v' = at_place (g * GROUPED + c.place-in-loop-f.result) in
    let p : v ≡ at_place (place_of (length l) (k + f)) =
    ap at_place (ap (λ o. g * GROUPED + o) c.place.ensures ∙ place_of_lem (length l) g f r (k + f) whole (search rules) (search rules) refl) in
    let q : v' ≡ at_place (place_of (length l) (k + MOMENTS + f)) =
    ap at_place (ap (λ o. g * GROUPED + o) c.place-in-loop-f.ensures ∙ place_of_lem (length l) g f (r + 1) (k + MOMENTS + f) whole (search rules) (search rules) (omega arith)) in
    let m = set l (k + f) v in
    let size : length m ≡ length l = length-set l (k + f) v in
    let one = read_step l card (k + f) v (omega arith) p in
    let other = read_step m card (k + MOMENTS + f) v' (rw size (omega arith)) (rw size q) in
    let two = two_more (k + f) (k + MOMENTS + f) (k + MOMENTS) (k + (f + 1)) (k + MOMENTS + (f + 1)) (omega arith) (omega arith) (omega arith) (omega arith) one other at.invariant.0.1 at.invariant.1 in
    ((same ∙ sym (length-set m _ _ ∙ size), two.0), two.1)

pub returns : goal.returns
returns c =
    let at = c.loop-f in
    let k = c.args.g * GROUPED + c.args.r * MOMENTS in
    let e : at.f ≡ MOMENTS = omega arith in
    let end : k + MOMENTS + MOMENTS ≡ c.args.g * GROUPED + (c.args.r + 2) * MOMENTS = omega arith in
    rw end at (joined at.moments c.args.card.now (k + MOMENTS) (k + MOMENTS + MOMENTS) (rw e at at.invariant.0) (rw e at at.invariant.1))
