-- What the definition of the card says, in the words of document 02: where a number of a whole group stands, that a last shorter group is left in record
-- order, and that the counts of a group come first. Assumes nothing.
use Prim.Native.Nat.{ℕ, ◌+◌, ◌*◌, ◌<◌, ◌≤◌}
use mathlib.Core.Path.{◌≡◌, sym, ap, ◌∙◌}
use mathlib.Core.List.{List}
use native.Mathlib.Omega.{arith}
use lib.ListN.{length, get_or}
use lib.Seq.{ext_get_or}
use Rattle.point_moments.specs.Moments.{MOMENTS}
use Rattle.cards.specs.Card.{GROUP, GROUPED, card_place, grouped, card_of}
use Rattle.cards.proofs.EachPlace.{list_place, place_in_group, place_last}
use Rattle.cards.proofs.Carried.{on_card}

-- number f of record r of a whole group g is at place 8·f + r of the group's numbers
pub in_group : (l : List ℕ) (g f r : ℕ) → g * GROUPED + GROUPED ≤ length l → f < MOMENTS → r < GROUP
    → get_or (card_of l) (g * GROUPED + card_place f r) 0 ≡ get_or l ((g * GROUP + r) * MOMENTS + f) 0
in_group l g f r whole h k =
    let e : (g * GROUP + r) * MOMENTS + f ≡ g * GROUPED + list_place f r = omega arith in
    rw (← place_in_group (length l) g f r whole h k, e) ((on_card l).1 (g * GROUPED + list_place f r) (omega arith))

-- THE COUNTS OF A GROUP ARE ITS FIRST EIGHT NUMBERS: those of its records in their order
pub counts_first : (l : List ℕ) (g r : ℕ) → g * GROUPED + GROUPED ≤ length l → r < GROUP → get_or (card_of l) (g * GROUPED + r) 0 ≡ get_or l ((g * GROUP + r) * MOMENTS) 0
counts_first l g r whole k =
    let p : g * GROUPED + r ≡ g * GROUPED + card_place 0 r = omega arith in
    let q : (g * GROUP + r) * MOMENTS ≡ (g * GROUP + r) * MOMENTS + 0 = omega arith in
    rw (p, q) (in_group l g 0 r whole (omega arith) k)

-- a last shorter group is left in record order
pub last_group : (l : List ℕ) (i : ℕ) → grouped (length l) ≤ i → i < length l → get_or (card_of l) i 0 ≡ get_or l i 0
last_group l i behind h = ap (λ (p : ℕ). get_or (card_of l) p 0) (sym (place_last (length l) i behind)) ∙ (on_card l).1 i h

-- and so is a list of fewer records than a group has
pub short_list : (l : List ℕ) → length l < GROUPED → card_of l ≡ l
unfolding grouped
short_list l h = ext_get_or 0 (card_of l) l (on_card l).0 (λ i m. last_group l i (none i) (rw (on_card l).0 at m))
  where
    none : (i : ℕ) → grouped (length l) ≤ i
    none i = omega arith
