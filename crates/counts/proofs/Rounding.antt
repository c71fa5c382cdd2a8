-- A fraction rounded, and compared with 2^53: rounding keeps the order, and 2^53 and 2^53 + 2 are floats. So what is at most 2^53 is not rounded above it,
-- and what is 2^53 + 2 at least is. Then the same of a sum of two fractions over one denominator. Assumes nothing.
use Prim.Native.Nat.{ℕ, zero, suc, ◌+◌, ◌-◌, ◌*◌, ◌^◌, ◌≤◌, ◌<◌}
use mathlib.Core.Path.{◌≡◌, refl, sym, ◌∙◌, subst}
use mathlib.Core.Bool.{Bool, true, false, ◌&&◌, ◌||◌, cond, false≢true, and-false}
use native.Mathlib.Omega.{arith}
use lib.IntN.{pos}
use lib.Dec.{T, ltb, leb, eqb, leb→le}
use lib.Ieee.{Float, nan, inf, fin, binary64, low, emax, prec, up, down, odd, units, round, sum, lt, le}
use lib.Ieee.Fits.{down_pos, round_is}
use lib.Ieee.Order.{round_mono}
use borrow.Author.Tests.{ltb-true, ltb-false, lt-ltb, le-ltb, lt-leb, le-leb, eqb-true, eqb-false, ne_eqb}
use Rattle.counts.specs.Saturation.{MOST}
use Rattle.counts.proofs.Signs.{sum_above}

-- 2^53, and the next float
abbrev most : Float
most = fin false 1 (pos 53)

abbrev next : Float
next = fin false (2 ^ 52 + 1) (pos 1)

most_rounds : round binary64 false MOST 1 ≡ most
unfolding round
most_rounds = refl

next_rounds : round binary64 false (MOST + 2) 1 ≡ next
unfolding round
next_rounds = refl

-- ---- `le` of two numbers that are not negative, as one test; and of one above zero with one that is negative
pub le_test : (a b : ℕ) → (ltb a b || (eqb a b && true)) ≡ leb a b
le_test a b = go (ltb a b) (eqb a b) refl refl
  where
    go : (l e : Bool) → ltb a b ≡ l → eqb a b ≡ e → (l || (e && true)) ≡ leb a b
    go true e p q = sym (le-leb a b (omega (arith, ltb-true a b p)))
    go false true p q = sym (le-leb a b (omega (arith, eqb-true a b q)))
    go false false p q = sym (lt-leb a b (let g = ltb-false a b p in let n = eqb-false a b q in omega arith))

pub no_sign : (a b : ℕ) → 0 < a → (eqb a b && eqb a 0) ≡ false
no_sign a b h = rw (ne_eqb a 0 (λ e. omega arith)) (and-false (eqb a b))

le_says : (a b : ℕ) → T (ltb a b || (eqb a b && true)) → a ≤ b
le_says a b t = leb→le a b (subst T (le_test a b) t)

not_negative : (a b : ℕ) → 0 < a → T (eqb a b && eqb a 0) → ⊥
not_negative a b h t = subst T (no_sign a b h) t

-- ---- one value against 2^53
at_most : (x : Float) → T (le x most) → lt most x ≡ false
unfolding le lt
at_most nan h = refl
at_most (inf true) h = refl
at_most (inf false) h = absurd h
at_most (fin true m e) h = refl
at_most (fin false m e) h = le-ltb (1 * 2 ^ 53 * down e) (m * up e * 1) (le_says (m * up e * 1) (1 * 2 ^ 53 * down e) h)

at_least : (x : Float) → T (le most x) → lt x most ≡ false
unfolding le lt
at_least nan h = absurd h
at_least (inf true) h = absurd h
at_least (inf false) h = refl
at_least (fin true m e) h = absurd (not_negative (1 * 2 ^ 53 * down e) (m * up e * 1) (omega (arith, down_pos e)) h)
at_least (fin false m e) h = le-ltb (m * up e * 1) (1 * 2 ^ 53 * down e) (le_says (1 * 2 ^ 53 * down e) (m * up e * 1) h)

from_next : (x : Float) → T (le next x) → lt most x ≡ true
unfolding le lt
from_next nan h = absurd h
from_next (inf true) h = absurd h
from_next (inf false) h = refl
from_next (fin true m e) h = absurd (not_negative ((2 ^ 52 + 1) * 2 ^ 1 * down e) (m * up e * 1) (omega (arith, down_pos e)) h)
from_next (fin false m e) h =
    lt-ltb (1 * 2 ^ 53 * down e) (m * up e * 1) (omega (arith, down_pos e, le_says ((2 ^ 52 + 1) * 2 ^ 1 * down e) (m * up e * 1) h))

stays : (n c : ℕ) → 0 < c → n ≤ MOST * c → lt most (round binary64 false n c) ≡ false
stays n c C h = at_most (round binary64 false n c) (subst (λ (z : Float). T (le (round binary64 false n c) z)) most_rounds (round_mono binary64 n c MOST 1 C (omega arith) (omega arith)))

goes : (n c : ℕ) → 0 < c → (MOST + 2) * c ≤ n → lt most (round binary64 false n c) ≡ true
goes n c C h = from_next (round binary64 false n c) (subst (λ (z : Float). T (le z (round binary64 false n c))) next_rounds (round_mono binary64 (MOST + 2) 1 n c (omega arith) C (omega arith)))

reaches : (n c : ℕ) → 0 < c → MOST * c ≤ n → lt (round binary64 false n c) most ≡ false
reaches n c C h = at_least (round binary64 false n c) (subst (λ (z : Float). T (le z (round binary64 false n c))) most_rounds (round_mono binary64 MOST 1 n c (omega arith) C (omega arith)))

-- nothing negative is above it
negative_odd : (d q k l : ℕ) → lt most (odd d true q k l) ≡ false
unfolding lt odd
negative_odd d zero k l = refl
negative_odd d (suc q) k l = refl

negative_units : (q k : ℕ) → lt most (units binary64 true q k) ≡ false
unfolding units
negative_units q k = go (ltb (q * 2 ^ k) (2 ^ (low binary64 + suc (emax binary64))))
  where
    go : (b : Bool) → lt most (cond b (odd (suc (prec binary64)) true q k (low binary64)) (inf true)) ≡ false
    go true = negative_odd (suc (prec binary64)) q k (low binary64)
    go false = unfold lt in refl

negative : (n c : ℕ) → lt most (round binary64 true n c) ≡ false
negative n c = rw (round_is binary64 true n c) (negative_units _ _)

-- ---- a sum: between 2^53 and 2^53 + 2 there is nothing
abbrev pub Gap : Bool → ℕ → Bool → ℕ → ℕ → Type 0
Gap false a false b c = MOST * c < a + b → (MOST + 2) * c ≤ a + b
Gap false a true b c = b + MOST * c < a → b + (MOST + 2) * c ≤ a
Gap true a false b c = a + MOST * c < b → a + (MOST + 2) * c ≤ b
Gap true a true b c = Unit {0}

-- n is a sum's size: above 2^53 by the test b, and then by 2 at least
rounded : (n c : ℕ) (b : Bool) → 0 < c → (b ≡ true → (MOST + 2) * c ≤ n) → (b ≡ false → n ≤ MOST * c) → lt most (round binary64 false n c) ≡ b
rounded n c true C h k = goes n c C (h refl)
rounded n c false C h k = stays n c C (k refl)

pub sum-above : (s : Bool) (a : ℕ) (t : Bool) (b c : ℕ) → 0 < c → Gap s a t b c → lt most (sum binary64 s a t b c) ≡ sum_above s a t b (MOST * c)
unfolding sum
sum-above true a true b c C g = negative (a + b) c
sum-above false a false b c C g =
    rounded (a + b) c (ltb (MOST * c) (a + b)) C (λ p. g (ltb-true (MOST * c) (a + b) p)) (λ p. ltb-false (MOST * c) (a + b) p)
sum-above false a true b c C g = go (ltb a b) refl
  where
    go : (l : Bool) → ltb a b ≡ l → lt most (cond l (round binary64 true (b - a) c) (round binary64 false (a - b) c)) ≡ ltb (b + MOST * c) a
    go true p = negative (b - a) c ∙ sym (le-ltb (b + MOST * c) a (omega (arith, ltb-true a b p)))
    go false p =
        rounded (a - b) c (ltb (b + MOST * c) a) C
        (λ q. omega (arith, g (ltb-true (b + MOST * c) a q)))
        (λ q. omega (arith, ltb-false (b + MOST * c) a q, ltb-false a b p))
sum-above true a false b c C g = go (ltb a b) (ltb b a) refl refl
  where
    go : (l r : Bool) → ltb a b ≡ l → ltb b a ≡ r → lt most (cond l (round binary64 false (b - a) c) (round binary64 (true && r) (a - b) c)) ≡ ltb (a + MOST * c) b
    go true r p w =
        rounded (b - a) c (ltb (a + MOST * c) b) C
        (λ q. omega (arith, g (ltb-true (a + MOST * c) b q)))
        (λ q. omega (arith, ltb-false (a + MOST * c) b q, ltb-true a b p))
    go false true p w = negative (a - b) c ∙ sym (le-ltb (a + MOST * c) b (omega (arith, ltb-false a b p)))
    go false false p w =
        stays (a - b) c C (omega (arith, ltb-false b a w)) ∙ sym (le-ltb (a + MOST * c) b (omega (arith, ltb-false a b p)))

-- a sum above 2^53 is not rounded below it
pub sum_reaches : (s : Bool) (a : ℕ) (t : Bool) (b c : ℕ) → 0 < c → sum_above s a t b (MOST * c) ≡ true → lt (sum binary64 s a t b c) most ≡ false
unfolding sum
sum_reaches true a true b c C h = absurd (false≢true h)
sum_reaches false a false b c C h = let l = ltb-true (MOST * c) (a + b) h in reaches (a + b) c C (omega arith)
sum_reaches false a true b c C h = let l = ltb-true (b + MOST * c) a h in rw (le-ltb a b (omega arith)) (reaches (a - b) c C (omega arith))
sum_reaches true a false b c C h = let l = ltb-true (a + MOST * c) b h in rw (lt-ltb a b (omega arith)) (reaches (b - a) c C (omega arith))
