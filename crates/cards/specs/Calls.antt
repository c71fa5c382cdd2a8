-- The calls of a host on cards: why they are refused, and what they leave. Definitions only.
use Rattle.std.specs.Prelude.{ℕ, ◌*◌, ◌/◌, ◌%◌, ◌≤◌, ◌≡◌, Bool, not, ◌||◌, List, [], ◌∷◌, ltb, eqb, length}
use Rattle.refusals.specs.Refusal.{◌when◌, first_of, Answered}
use Rattle.point_moments.specs.Moments.{MOMENTS}
use Rattle.cards.specs.Card.{card_of, list_of}

-- "Lists hold 0 to 65,536 records"
abbrev pub MOST_RECORDS : ℕ
MOST_RECORDS = 65536

-- a list of n records, as many as a call takes
abbrev pub Records : ℕ → List ℕ → Type 0
Records n l = (n ≤ MOST_RECORDS) × (length l ≡ n * MOMENTS)

-- 3, of the lengths of what is read and of what is written: not whole records, too many of them, or an output that is not as long
unfoldable pub bad_lengths : ℕ → ℕ → Bool
bad_lengths from to = not (eqb (from % MOMENTS) 0) || (ltb MOST_RECORDS (from / MOMENTS) || not (eqb to from))

unfoldable pub card_refusal : List ℕ → List ℕ → ℕ
card_refusal from to = first_of (3 when bad_lengths (length from) (length to) ∷ [])

-- card_write: the list, and the card before, the answer, the card after
abbrev pub Writes : List ℕ → List ℕ → ℕ → List ℕ → Type 0
Writes moments card r card' = Answered (card_refusal moments card) r card card' (card_of moments)

-- card_read: the card, and the list before, the answer, the list after
abbrev pub Reads : List ℕ → List ℕ → ℕ → List ℕ → Type 0
Reads card moments r moments' = Answered (card_refusal card moments) r moments moments' (list_of card)
