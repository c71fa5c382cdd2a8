-- Ordered reasons in parts: the first that applies is in the first part that has one. Assumes nothing.
use Rattle.std.specs.Prelude.{ℕ, zero, suc, ◌+◌, ◌<◌, ◌≡◌, refl, Bool, true, false, cond, List, [], ◌∷◌, ◌++◌}
use Rattle.std.proofs.Common.{sym, ◌∙◌, ⊎_elim, add-one, suc-ne-zero, eq-or-lt_of_le, le_of_suc-le-suc, not-suc-le-zero}
use Rattle.refusals.specs.Refusal.{Reason, first_of}
use Rattle.terms.specs.Terms.{upto}
use Rattle.call_lists.specs.Lists.{Every}
use Rattle.call_lists.specs.ListLaws.{every_upto}

-- a, and b where a is 0
abbrev pub or_else : ℕ → ℕ → ℕ
or_else zero b = b
or_else (suc a) b = suc a

-- 0 is no reason's number
abbrev pub Numbered : List Reason → Type 0
Numbered rs = Every (λ r. r.number ≡ 0 → ⊥) rs

pub first-append : (a b : List Reason) → Numbered a → first_of (a ++ b) ≡ or_else (first_of a) (first_of b)
first-append [] b h = refl
first-append (r ∷ a) b h = go r.applies r.number h.0 (first-append a b h.1)
  where
    go : (t : Bool) (k : ℕ) → (k ≡ 0 → ⊥) → first_of (a ++ b) ≡ or_else (first_of a) (first_of b) → cond t k (first_of (a ++ b)) ≡ or_else (cond t k (first_of a)) (first_of b)
    go true zero nz e = absurd (nz refl)
    go true (suc k) nz e = refl
    go false k nz e = e

pub or_else-some : (a b c : ℕ) → a ≡ c → (c ≡ 0 → ⊥) → or_else a b ≡ c
or_else-some zero b c e h = absurd (h (sym e))
or_else-some (suc a) b c e h = e

-- ---- a loop over parts: none of the first k has a reason, one more has none, and part k has the first
module _ (f : ℕ → List Reason) (numbered : (k : ℕ) → Numbered (f k)) where
  pub parts_numbered : (n : ℕ) → Numbered (upto n f)
  parts_numbered n = every_upto (λ (r : Reason). r.number ≡ 0 → ⊥) n f (λ i l. numbered i)

  one_more : (n : ℕ) → first_of (upto (suc n) f) ≡ or_else (first_of (upto n f)) (first_of (f n))
  unfolding upto
  one_more n = first-append (upto n f) (f n) (parts_numbered n)

  pub none_more : (k : ℕ) → first_of (upto k f) ≡ 0 → first_of (f k) ≡ 0 → first_of (upto (k + 1) f) ≡ 0
  none_more k h e = rw (add-one k) (one_more k ∙ rw (h, e))

  pub first-at : (k n : ℕ) → k < n → first_of (upto k f) ≡ 0 → (first_of (f k) ≡ 0 → ⊥) → first_of (upto n f) ≡ first_of (f k)
  first-at k zero l h e = absurd (not-suc-le-zero l)
  first-at k (suc n) l h e =
      one_more n
      ∙ ⊎_elim (λ (q : k ≡ n). here n q) (λ (q : k < n). or_else-some (first_of (upto n f)) (first_of (f n)) (first_of (f k)) (first-at k n q h e) e) (eq-or-lt_of_le (le_of_suc-le-suc l))
    where
      here : (n : ℕ) → k ≡ n → or_else (first_of (upto n f)) (first_of (f n)) ≡ first_of (f k)
      here n q = rw (sym q) (rw h)

-- ---- what is known where no reason applies
pub neither : (a b : ℕ) → or_else a b ≡ 0 → (a ≡ 0) × (b ≡ 0)
neither zero b h = (refl, h)
neither (suc a) b h = absurd (suc-ne-zero a h)
