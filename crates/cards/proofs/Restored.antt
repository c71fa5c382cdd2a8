-- Each way round restores the list: reading what was written, and writing what was read, gives the very bits back, for every list of 0 to 65,536 records
-- and any content. Of the definitions, and of the two calls by their contracts. Assumes nothing.
use Prim.Native.Nat.{ℕ}
use mathlib.Core.Path.{◌≡◌, sym, ap, ◌∙◌}
use mathlib.Core.List.{List}
use lib.ListN.{length}
use Rattle.refusals.proofs.Laws.{answered}
use Rattle.cards.specs.Card.{card_of, list_of}
use Rattle.cards.specs.Calls.{Records, Writes, Reads}
use Rattle.cards.proofs.Lengths.{taken}
use Rattle.cards.proofs.Carried.{one_card, one_list, on_card, off_card}

-- the list of a list's card is the list, and the card of a card's list the card
pub read_back : (l : List ℕ) → list_of (card_of l) ≡ l
read_back l = one_list (list_of (card_of l)) l (card_of l) (off_card (card_of l)) (on_card l)

pub written_back : (card : List ℕ) → card_of (list_of card) ≡ card
written_back card = one_card (list_of card) (card_of (list_of card)) card (on_card (list_of card)) (off_card card)

-- READ AFTER WRITE: the list's own bits, whatever the card and the second list held before
pub write_then_read : (n : ℕ) (l card card' m m' : List ℕ) (r s : ℕ) → Records n l → length card ≡ length l → length m ≡ length l
    → Writes l card r card' → Reads card' m s m' → (r ≡ 0) × (s ≡ 0) × (m' ≡ l)
write_then_read n l card card' m m' r s (most, size) same same' writes reads =
    let w = answered (taken n l card (most, size) same) writes in
    let long : length card' ≡ length l = ap length w.1 ∙ (on_card l).0 in
    let d = answered (taken n card' m (most, long ∙ size) (same' ∙ sym long)) reads in
    (w.0, d.0, d.1 ∙ ap list_of w.1 ∙ read_back l)

-- WRITE AFTER READ: the card's own bits
pub read_then_write : (n : ℕ) (card l l' d d' : List ℕ) (r s : ℕ) → Records n card → length l ≡ length card → length d ≡ length card
    → Reads card l r l' → Writes l' d s d' → (r ≡ 0) × (s ≡ 0) × (d' ≡ card)
read_then_write n card l l' d d' r s (most, size) same same' reads writes =
    let w = answered (taken n card l (most, size) same) reads in
    let long : length l' ≡ length card = ap length w.1 ∙ sym (off_card card).0 in
    let e = answered (taken n l' d (most, long ∙ size) (same' ∙ sym long)) writes in
    (w.0, e.0, e.1 ∙ ap card_of w.1 ∙ written_back card)
