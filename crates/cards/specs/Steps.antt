-- What the functions below the two calls are handed and leave; no exported contract cites it. Definitions only.
use Rattle.std.specs.Prelude.{ℕ, ◌+◌, ◌*◌, ◌<◌, ◌≤◌, ◌≡◌, List, length, get_or}
use Rattle.point_moments.specs.Moments.{MOMENTS}
use Rattle.cards.specs.Card.{GROUP, GROUPED, card_place, place_of}

-- a table of a group's places, the numbers in the list's order: record after record
abbrev pub Places : List ℕ → Type 0
Places t = (f r : ℕ) → f < MOMENTS → r < GROUP → get_or t (MOMENTS * r + f) 0 ≡ card_place f r

-- number i of a list is at its place on a card; the first k numbers are; those from a number on are
abbrev pub AtPlace : List ℕ → List ℕ → ℕ → Type 0
AtPlace l card i = get_or card (place_of (length l) i) 0 ≡ get_or l i 0

abbrev pub Placed : List ℕ → List ℕ → ℕ → Type 0
Placed l card k = (i : ℕ) → i < k → AtPlace l card i

abbrev pub PlacedFrom : List ℕ → List ℕ → ℕ → ℕ → Type 0
PlacedFrom l card from to = (i : ℕ) → from ≤ i → i < to → AtPlace l card i

-- the first k numbers have been carried from the list to the card, or back
abbrev pub Carried : List ℕ → List ℕ → ℕ → Type 0
Carried l card k = (length card ≡ length l) × Placed l card k

-- group g is whole
abbrev pub Whole : List ℕ → ℕ → Type 0
Whole l g = g * GROUPED + GROUPED ≤ length l
