-- Laws of places: every number of a list has a place of its own on the card, and every place of the card a number. Assumes nothing.
use Prim.Native.Nat.{ℕ, ◌+◌, ◌*◌, ◌/◌, ◌%◌, ◌<◌, ◌≤◌}
use mathlib.Core.Path.{◌≡◌, sym, ap, ◌∙◌}
use mathlib.Core.Bool.{cond}
use mathlib.Core.Logic.{⊎_elim}
use native.Mathlib.Omega.{arith}
use lib.Dec.{ltb}
use borrow.Author.Tests.{lt-ltb, le-ltb}
use Rattle.total_order.proofs.Parts.{side}
use Rattle.point_moments.specs.Moments.{MOMENTS}
use Rattle.cards.specs.Card.{GROUP, GROUPED, card_place, grouped, place_of}

-- in the list a group's records stand one after the other
abbrev pub list_place : ℕ → ℕ → ℕ
list_place f r = MOMENTS * r + f

-- the number that comes to place p
unfoldable pub number_at : ℕ → ℕ → ℕ
number_at n p = cond (ltb p (grouped n)) (p / GROUPED * GROUPED + list_place (p / GROUP % MOMENTS) (p % GROUP)) p

place-grouped : (n i : ℕ) → i < grouped n → place_of n i ≡ i / GROUPED * GROUPED + card_place (i % MOMENTS) (i / MOMENTS % GROUP)
unfolding place_of
place-grouped n i h = rw (lt-ltb _ _ h)

pub place_last : (n i : ℕ) → grouped n ≤ i → place_of n i ≡ i
unfolding place_of
place_last n i h = rw (le-ltb _ _ h)

number_grouped : (n p : ℕ) → p < grouped n → number_at n p ≡ p / GROUPED * GROUPED + list_place (p / GROUP % MOMENTS) (p % GROUP)
unfolding number_at
number_grouped n p h = rw (lt-ltb _ _ h)

number_last : (n p : ℕ) → grouped n ≤ p → number_at n p ≡ p
unfolding number_at
number_last n p h = rw (le-ltb _ _ h)

pub within : (n : ℕ) → grouped n ≤ n
unfolding grouped
within n = omega arith

whole_group : (n i : ℕ) → i < grouped n → i / GROUPED * GROUPED + GROUPED ≤ n
unfolding grouped
whole_group n i h = omega arith

-- number f of record r of a whole group g, there and back
module _ (n g f r : ℕ) (whole : g * GROUPED + GROUPED ≤ n) (h : f < MOMENTS) (k : r < GROUP) where
  inside : (o : ℕ) → o < GROUPED → g * GROUPED + o < grouped n
  unfolding grouped
  inside o l = omega arith

  pub place_in_group : place_of n (g * GROUPED + list_place f r) ≡ g * GROUPED + card_place f r
  place_in_group = place-grouped n (g * GROUPED + list_place f r) (inside (list_place f r) (omega arith)) ∙ omega arith

  number_in_group : number_at n (g * GROUPED + card_place f r) ≡ g * GROUPED + list_place f r
  number_in_group = number_grouped n (g * GROUPED + card_place f r) (inside (card_place f r) (omega arith)) ∙ omega arith

-- the same of number i of the list
pub place_of_lem : (n g f r i : ℕ) → g * GROUPED + GROUPED ≤ n → f < MOMENTS → r < GROUP → i ≡ g * GROUPED + r * MOMENTS + f → g * GROUPED + card_place f r ≡ place_of n i
place_of_lem n g f r i whole h k e = let z : i ≡ g * GROUPED + list_place f r = omega arith in rw z (sym (place_in_group n g f r whole h k))

-- any number, there and back
number_place : (n i : ℕ) → number_at n (place_of n i) ≡ i
number_place n i = ⊎_elim inner (λ (l : grouped n ≤ i). rw (place_last n i l) (number_last n i l)) (side i (grouped n))
  where
    inner : i < grouped n → number_at n (place_of n i) ≡ i
    inner l =
        let q = whole_group n i l in
        let e : i / GROUPED * GROUPED + list_place (i % MOMENTS) (i / MOMENTS % GROUP) ≡ i = omega arith in
        rw (place-grouped n i l) (number_in_group n (i / GROUPED) (i % MOMENTS) (i / MOMENTS % GROUP) q (omega arith) (omega arith) ∙ e)

pub place_number : (n p : ℕ) → place_of n (number_at n p) ≡ p
place_number n p = ⊎_elim inner (λ (l : grouped n ≤ p). rw (number_last n p l) (place_last n p l)) (side p (grouped n))
  where
    inner : p < grouped n → place_of n (number_at n p) ≡ p
    inner l =
        let q = whole_group n p l in
        let e : p / GROUPED * GROUPED + card_place (p / GROUP % MOMENTS) (p % GROUP) ≡ p = omega arith in
        rw (number_grouped n p l) (place_in_group n (p / GROUPED) (p / GROUP % MOMENTS) (p % GROUP) q (omega arith) (omega arith) ∙ e)

-- a group stays within its places
pub place_fits : (n i : ℕ) → i < n → place_of n i < n
place_fits n i h = ⊎_elim inner (λ (l : grouped n ≤ i). rw (place_last n i l) h) (side i (grouped n))
  where
    inner : i < grouped n → place_of n i < n
    inner l = let q = whole_group n i l in rw (place-grouped n i l) (omega arith)

-- nor does a whole group leave the whole groups
pub place_stays : (n i : ℕ) → i < grouped n → place_of n i < grouped n
place_stays n i l =
    let q = whole_group n i l in
    let e : i / GROUPED * GROUPED + list_place (i % MOMENTS) (i / MOMENTS % GROUP) ≡ i = omega arith in
    rw (place-grouped n i l) (inside n (i / GROUPED) (i % MOMENTS) (i / MOMENTS % GROUP) q (omega arith) (omega arith) (card_place (i % MOMENTS) (i / MOMENTS % GROUP)) (omega arith))

pub number_fits : (n p : ℕ) → p < n → number_at n p < n
number_fits n p h = ⊎_elim inner (λ (l : grouped n ≤ p). rw (number_last n p l) h) (side p (grouped n))
  where
    inner : p < grouped n → number_at n p < n
    inner l = let q = whole_group n p l in rw (number_grouped n p l) (omega arith)

pub apart : (n i j : ℕ) → place_of n i ≡ place_of n j → i ≡ j
apart n i j e = sym (number_place n i) ∙ ap (number_at n) e ∙ number_place n j
