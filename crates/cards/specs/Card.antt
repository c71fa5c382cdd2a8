-- The order of moments on a card: a list of records is stored in groups of eight, in each of which number 0 of all eight records stands first, then
-- number 1, and so on, so that the counts come first. Definitions only.
use Rattle.std.specs.Prelude.{ℕ, zero, suc, ◌+◌, ◌*◌, ◌/◌, ◌%◌, cond, List, [], ◌∷◌, ltb, length, get_or, set, replicate}
use Rattle.point_moments.specs.Moments.{MOMENTS}

-- how many records are a group
abbrev pub GROUP : ℕ
GROUP = 8

-- how many numbers a whole group has
abbrev pub GROUPED : ℕ
GROUPED = GROUP * MOMENTS

-- "number f of record r in its group goes to place 8·f + r"
abbrev pub card_place : ℕ → ℕ → ℕ
card_place f r = GROUP * f + r

-- how many of n numbers stand in whole groups
unfoldable pub grouped : ℕ → ℕ
grouped n = n / GROUPED * GROUPED

-- where number i of a list of n goes. It is number i % MOMENTS of record i / MOMENTS; "a last shorter group is left in record order"
unfoldable pub place_of : ℕ → ℕ → ℕ
place_of n i = cond (ltb i (grouped n)) (i / GROUPED * GROUPED + card_place (i % MOMENTS) (i / MOMENTS % GROUP)) i

-- the numbers h 0, .., h (n - 1)
unfoldable pub listed : ℕ → (ℕ → ℕ) → List ℕ
listed zero h = []
listed (suc n) h = h 0 ∷ listed n (λ i. h (suc i))

-- the numbers of a list put at places 'at 0', 'at 1', .. of a card
unfoldable pub put : (ℕ → ℕ) → List ℕ → List ℕ → List ℕ
put at [] card = card
put at (x ∷ l) card = set (put (λ i. at (suc i)) l card) (at 0) x

-- the card of a list of moments, as bit patterns: each number at its place
unfoldable pub card_of : List ℕ → List ℕ
card_of l = put (place_of (length l)) l (replicate (length l) 0)

-- the list of a card: each number from its place
unfoldable pub list_of : List ℕ → List ℕ
list_of card = listed (length card) (λ i. get_or card (place_of (length card) i) 0)
