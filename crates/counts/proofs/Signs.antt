-- The exact sum of two signed whole numbers against a bound, sign by sign. Assumes nothing.
use Prim.Native.Nat.{ℕ, zero, suc, ◌+◌, ◌-◌, ◌<◌}
use mathlib.Core.Path.{◌≡◌, refl, sym, ◌∙◌}
use mathlib.Core.Bool.{Bool, true, false}
use native.Mathlib.Omega.{arith}
use native.Mathlib.Nat.{lt_of_not-le, le_of_suc-le-suc}
use lib.IntN.{pos, neg_ℤ, ◌+ℤ◌, +ℤ_comm, neg_ℤ-+ℤ}
use lib.Dec.{ltb}
use borrow.Author.Tests.{ltb-true, ltb-false, lt-ltb, le-ltb, lt-leb}
use Rattle.counts.specs.Whole.{signed}
use Rattle.counts.specs.Saturation.{at_least, above}
use Rattle.counts.proofs.Whole.{difference_down, difference-up}

-- ±a + ±b > l, in natural numbers
abbrev pub sum_above : Bool → ℕ → Bool → ℕ → ℕ → Bool
sum_above false a false b l = ltb l (a + b)
sum_above false a true b l = ltb (b + l) a
sum_above true a false b l = ltb (a + l) b
sum_above true a true b l = false

-- nothing negative is above a bound, nor at one above 0
negative-above : (l n : ℕ) → above l (neg_ℤ (pos n)) ≡ false
negative-above l zero = le-ltb l 0 (omega arith)
negative-above l (suc n) = refl

pub negative-least : (l n : ℕ) → 0 < l → at_least l (neg_ℤ (pos n)) ≡ false
negative-least l zero h = lt-leb l 0 h
negative-least l (suc n) h = refl

pub test_same : (a b c d : ℕ) → (a < b → c < d) → (c < d → a < b) → ltb a b ≡ ltb c d
test_same a b c d f g = go (ltb a b) refl
  where
    go : (t : Bool) → ltb a b ≡ t → t ≡ ltb c d
    go true p = sym (lt-ltb c d (f (ltb-true a b p)))
    go false p =
        sym (le-ltb c d (le_of_suc-le-suc (lt_of_not-le (λ q. let l = g q in let k = ltb-false a b p in omega arith))))

minus-above : (l a b : ℕ) → above l (pos a +ℤ neg_ℤ (pos b)) ≡ ltb (b + l) a
minus-above l a b = go (ltb a b) refl
  where
    go : (t : Bool) → ltb a b ≡ t → above l (pos a +ℤ neg_ℤ (pos b)) ≡ ltb (b + l) a
    go true p = let k = ltb-true a b p in rw (difference-up a b p) (negative-above l (b - a) ∙ sym (le-ltb (b + l) a (omega arith)))
    go false p = let k = ltb-false a b p in rw (difference_down a b p) (test_same l (a - b) (b + l) a (λ q. omega arith) (λ q. omega arith))

pub above-sum : (s : Bool) (a : ℕ) (t : Bool) (b l : ℕ) → above l (signed s a +ℤ signed t b) ≡ sum_above s a t b l
above-sum false a false b l = refl
above-sum false a true b l = minus-above l a b
above-sum true a false b l = rw (+ℤ_comm (neg_ℤ (pos a)) (pos b)) (minus-above l b a)
above-sum true a true b l = rw (← neg_ℤ-+ℤ (pos a) (pos b)) (negative-above l (a + b))
