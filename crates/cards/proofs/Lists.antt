-- Numbers listed, and numbers put at places that are apart. Assumes nothing.
use Prim.Native.Nat.{ℕ, zero, suc, ◌<◌}
use mathlib.Core.Path.{◌≡◌, refl, ap, ◌∙◌}
use mathlib.Core.List.{List, [], ◌∷◌}
use native.Mathlib.Nat.{not-suc-le-zero, le_of_suc-le-suc}
use native.Mathlib.Omega.{arith}
use lib.ListN.{length, get_or, length-set}
use lib.Seq.{get_or-set_same, get_or-set_other}
use Rattle.cards.specs.Card.{listed, put}

pub length-listed : (n : ℕ) (h : ℕ → ℕ) → length (listed n h) ≡ n
unfolding listed
length-listed zero h = refl
length-listed (suc n) h = ap suc (length-listed n (λ i. h (suc i)))

pub get_or-listed : (n : ℕ) (h : ℕ → ℕ) (i : ℕ) → i < n → get_or (listed n h) i 0 ≡ h i
unfolding listed
get_or-listed zero h i m = absurd (not-suc-le-zero m)
get_or-listed (suc n) h zero m = refl
get_or-listed (suc n) h (suc i) m = get_or-listed n (λ k. h (suc k)) i (le_of_suc-le-suc m)

pub length-put : (at : ℕ → ℕ) (l card : List ℕ) → length (put at l card) ≡ length card
unfolding put
length-put at [] card = refl
length-put at (x ∷ l) card = length-set (put (λ i. at (suc i)) l card) (at 0) x ∙ length-put (λ i. at (suc i)) l card

-- where the places are apart and on the card
pub get_or-put : (at : ℕ → ℕ) (l card : List ℕ) → ((i j : ℕ) → at i ≡ at j → i ≡ j) → ((i : ℕ) → i < length l → at i < length card)
    → (i : ℕ) → i < length l → get_or (put at l card) (at i) 0 ≡ get_or l i 0
unfolding put
get_or-put at [] card apart fits i m = absurd (not-suc-le-zero m)
get_or-put at (x ∷ l) card apart fits zero m =
    let rest = put (λ k. at (suc k)) l card in
    get_or-set_same rest (at 0) x 0 (rw length-put (fits 0 m))
get_or-put at (x ∷ l) card apart fits (suc i) m =
    let rest = put (λ k. at (suc k)) l card in
    get_or-set_other rest (at 0) (at (suc i)) x 0 (λ e. let z = apart (suc i) 0 e in omega arith)
    ∙ get_or-put (λ k. at (suc k)) l card (λ j k e. let z = apart (suc j) (suc k) e in omega arith) (λ k b. fits (suc k) (omega arith)) i (le_of_suc-le-suc m)
