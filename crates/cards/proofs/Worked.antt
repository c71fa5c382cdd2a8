-- Cards worked out: lists of seven, eight and nine records, and the lengths that calls take. Assumes nothing.
use Prim.Native.Nat.{ℕ, ◌+◌, ◌*◌, ◌≤◌}
use mathlib.Core.Path.{◌≡◌, refl}
use mathlib.Core.Bool.{true, false}
use mathlib.Core.List.{List, [], ◌∷◌}
use native.Mathlib.Omega.{arith}
use lib.ListN.{get_or, take, drop}
use Rattle.point_moments.specs.Moments.{MOMENTS}
use Rattle.cards.specs.Card.{GROUP, GROUPED, grouped, place_of, listed, put, card_of, list_of}
use Rattle.cards.specs.Calls.{MOST_RECORDS, bad_lengths, card_refusal, Writes, Reads}
use Rattle.cards.proofs.Order.{in_group, counts_first, last_group}
use Rattle.cards.proofs.Restored.{write_then_read, read_then_write}

-- n records whose numbers are 0, 1, 2 and so on
rising : ℕ → List ℕ
rising n = listed (n * MOMENTS) (λ i. i)

-- seven records stay as they are
seven : card_of (rising 7) ≡ rising 7
unfolding rising card_of listed put place_of grouped
seven = refl

-- of eight and of nine records the counts of the first eight come first, then number 1 of the first of them; the ninth record stays
eight : take 9 (card_of (rising 8)) ≡ 0 ∷ MOMENTS ∷ 2 * MOMENTS ∷ 3 * MOMENTS ∷ 4 * MOMENTS ∷ 5 * MOMENTS ∷ 6 * MOMENTS ∷ 7 * MOMENTS ∷ 1 ∷ []
unfolding rising card_of listed put place_of grouped
eight = refl

nine : (take GROUPED (card_of (rising 9)) ≡ card_of (rising 8)) × (drop GROUPED (card_of (rising 9)) ≡ drop GROUPED (rising 9))
unfolding rising card_of listed put place_of grouped
nine = (refl, refl)

-- no record, and the most: taken; one more, a number too few or too many, and an output of another length: reason 3
lengths :
    (bad_lengths 0 0 ≡ false) × (bad_lengths (65536 * MOMENTS) (65536 * MOMENTS) ≡ false) × (bad_lengths (65537 * MOMENTS) (65537 * MOMENTS) ≡ true)
    × (bad_lengths 1 1 ≡ true) × (bad_lengths (9 * MOMENTS + 1) (9 * MOMENTS + 1) ≡ true) × (bad_lengths (9 * MOMENTS) (8 * MOMENTS) ≡ true) × (bad_lengths 0 MOMENTS ≡ true)
unfolding bad_lengths
lengths = (refl, refl, refl, refl, refl, refl, refl)

refused : (card_refusal (rising 9) (rising 8) ≡ 3) × (card_refusal (rising 9) (rising 9) ≡ 0)
unfolding rising listed card_refusal bad_lengths
refused = (refl, refl)

-- the theorems at nine records: the count of the sixth, number 2 of it, number 1 of the ninth; and both calls in turn, over what was there
in_nine : (get_or (card_of (rising 9)) 5 0 ≡ get_or (rising 9) (5 * MOMENTS) 0) × (get_or (card_of (rising 9)) (2 * GROUP + 5) 0 ≡ get_or (rising 9) (5 * MOMENTS + 2) 0)
    × (get_or (card_of (rising 9)) (GROUPED + 1) 0 ≡ get_or (rising 9) (GROUPED + 1) 0)
unfolding rising listed grouped
in_nine =
    (counts_first (rising 9) 0 5 (omega arith) (omega arith), in_group (rising 9) 0 2 5 (omega arith) (omega arith) (omega arith), last_group (rising 9) (GROUPED + 1) (omega arith) (omega arith))

written : Writes (rising 9) (rising 9) 0 (card_of (rising 9))
unfolding rising listed card_refusal bad_lengths
written = record { number_is = refl; left_is = refl }

read : Reads (rising 9) (rising 9) 0 (list_of (rising 9))
unfolding rising listed card_refusal bad_lengths
read = record { number_is = refl; left_is = refl }

nine_again : (list_of (card_of (rising 9)) ≡ rising 9) × (card_of (list_of (rising 9)) ≡ rising 9)
unfolding rising listed put place_of grouped card_of list_of card_refusal bad_lengths
nine_again =
    let l = rising 9 in
    let most : 9 ≤ MOST_RECORDS = omega arith in (
      (write_then_read 9 l l (card_of l) l (list_of (card_of l)) 0 0 (most, refl) refl refl written (record { number_is = refl; left_is = refl })).2,
      (read_then_write 9 l l (list_of l) l (card_of (list_of l)) 0 0 (most, refl) refl refl read (record { number_is = refl; left_is = refl })).2,
    )
