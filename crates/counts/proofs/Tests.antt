-- The tests of `push_saturates` and `merge_saturates` are the definitions, for every f64. Assumes nothing.
use Prim.Native.Nat.{ℕ, zero, suc, ◌+◌, ◌-◌, ◌*◌, ◌%◌, ◌^◌, ◌≤◌, ◌<◌}
use mathlib.Core.Path.{◌≡◌, refl, sym, ap, ◌∙◌}
use mathlib.Core.Logic.{◌⊎◌, inl, inr, ⊎_elim}
use mathlib.Core.Bool.{Bool, true, false, not, ◌&&◌, false≢true, and-eq-true_iff}
use native.Mathlib.Omega.{arith}
use native.Mathlib.Nat.{mul_comm, mul-one, one-mul, mul_assoc, mul_left_comm, mul_right_comm, mul-pos, mul-le-mul_right, add-mul, zero-mul, le_of_lt, pow-succ'}
use lib.IntN.{ℤ, pos, negsuc}
use lib.Pow.{pow_pos}
use lib.Dec.{T, ltb, eqb, leb, ltb→lt}
use lib.Ieee.{Float, nan, inf, fin, binary64, emax, low, up, down, add, sub, neg, sum, lt, le, below, fits, of_bits, of_fields, odd}
use lib.Ieee.Fits.{down_pos, and_l, and_r}
use lib.Ieee.Exact.{HasValue}
use lib.Ieee.Back.{round_whole}
use borrow.Author.Tests.{ltb-true, ltb-false, lt-ltb, le-ltb, leb-true, leb-false}
use Rattle.counts.specs.Saturation.{MOST, push_saturates, merge_saturates}
use Rattle.counts.specs.Near.{near}
use Rattle.counts.proofs.Whole.{ltb-scaled}
use Rattle.counts.proofs.Signs.{sum_above, above-sum, test_same, negative-least}
use Rattle.counts.proofs.Rounding.{le_test, no_sign, Gap, sum-above, sum_reaches}

-- ---- push
pub push_test : (x : Float) → le (of_bits binary64 0x4340_0000_0000_0000) x ≡ push_saturates x
unfolding le of_bits of_fields odd push_saturates
push_test nan = refl
push_test (inf false) = refl
push_test (inf true) = refl
push_test (fin false m e) = rw (le_test (MOST * down e) (m * up e * 1), mul-one (m * up e))
push_test (fin true m e) =
    let d : 0 < MOST * down e = omega (arith, down_pos e) in
    no_sign (MOST * down e) (m * up e * 1) d ∙ sym (negative-least (MOST * down e) (m * up e) d)

-- ---- what `near` and `fits` say of a finite value
few_digits : (s : Bool) (m : ℕ) (e : ℤ) → T (fits binary64 (fin s m e)) → m < 2 ^ 53
unfolding fits
few_digits s zero e h = omega arith
few_digits s (suc m) e h =
    let a = eqb (suc m % 2) 1 in
    let b = ltb (suc m) (2 ^ 53) in
    let c = leb (down e) (2 ^ low binary64) in
    ltb→lt (suc m) (2 ^ 53) (and_r a b (and_l (a && b) c (and_l (a && b && c) (ltb (suc m * up e) (2 ^ suc (emax binary64) * down e)) h)))

near-fin : (m : ℕ) (e : ℤ) → near (fin false m e) ≡ (leb (2 ^ 52 * down e) (m * up e) && leb (m * up e) (2 ^ 54 * down e))
unfolding near le of_bits of_fields odd
near-fin m e = rw (le_test (2 ^ 52 * down e) (m * up e * 1), le_test (m * up e * 1) (2 ^ 54 * down e), mul-one (m * up e))

near-negative : (m : ℕ) (e : ℤ) → near (fin true m e) ≡ false
unfolding near le of_bits of_fields odd
near-negative m e = rw (no_sign (2 ^ 52 * down e) (m * up e * 1) (omega (arith, down_pos e)))

either : (a b : Bool) → (a && b) ≡ false → (a ≡ false) ⊎ (b ≡ false)
either true b h = inr h
either false b h = inl refl

-- a count from 2^52 on that the format holds is whole
whole : (s : Bool) (m : ℕ) (e : ℤ) → T (fits binary64 (fin s m e)) → 2 ^ 52 * down e ≤ m * up e → down e ≡ 1
whole s m (pos k) f h = refl
whole s m (negsuc k) f h = absurd (no (few_digits s m (negsuc k) f))
  where
    no : m < 2 ^ 53 → ⊥
    no l = omega (arith, pow-succ' 2 k, pow_pos k)

-- and above 2^53 it is even
pub even : (s : Bool) (m : ℕ) (e : ℤ) → T (fits binary64 (fin s m e)) → 2 ^ 53 * down e < m * up e → (h : ℕ) × (m * up e ≡ 2 * h) × (down e ≡ 1)
even s m (pos zero) f h = absurd (no (few_digits s m (pos zero) f))
  where
    no : m < 2 ^ 53 → ⊥
    no l = omega arith
even s m (pos (suc k)) f h = (m * 2 ^ k, rw (pow-succ' 2 k) (mul_left_comm m 2 (2 ^ k)), refl)
even s m (negsuc k) f h = absurd (no (few_digits s m (negsuc k) f))
  where
    no : m < 2 ^ 53 → ⊥
    no l = omega (arith, pow-succ' 2 k, pow_pos k)

-- ---- a comparison over a common denominator
below_scaled : (s : Bool) (a : ℕ) (t : Bool) (b k : ℕ) → 0 < k → below s (a * k) t (b * k) ≡ below s a t b
below_scaled false a false b k h = ltb-scaled a b k h
below_scaled false a true b k h = refl
below_scaled true a false b k h = ap (λ (z : ℕ). ltb z (a * k + b * k)) (sym (zero-mul k)) ∙ ap (ltb (0 * k)) (sym (add-mul a b k)) ∙ ltb-scaled 0 (a + b) k h
below_scaled true a true b k h = ltb-scaled b a k h

-- a value that is the whole number ±v, against any other
lt_whole : (x : Float) (s : Bool) (v : ℕ) (t : Bool) (n : ℕ) (d : ℤ) → HasValue x s v 1 → lt x (fin t n d) ≡ below s (v * down d) t (n * up d)
unfolding lt
lt_whole nan s v t n d h = absurd h
lt_whole (inf r) s v t n d h = absurd h
lt_whole (fin r m e) s v t n d h =
    let q : m * up e * down d ≡ v * down d * down e = ap (λ (z : ℕ). z * down d) (sym (mul-one (m * up e)) ∙ h.1) ∙ mul_right_comm v (down e) (down d) in
    rw (h.0, q) (below_scaled s (v * down d) t (n * up d) (down e) (down_pos e))

-- ---- near: the difference to 2^53 is exact
-- a - b is the whole number that it is, if that is at most 2^53
abbrev minus : ℕ → ℕ → Float
minus a b = sum binary64 false a true b 1

minus_down : (a b : ℕ) → b ≤ a → a ≤ b + MOST → HasValue (minus a b) false (a - b) 1
unfolding sum
minus_down a b h k = rw (le-ltb a b h) (round_whole binary64 false (a - b) (omega arith))

minus-up : (a b : ℕ) → a < b → b ≤ a + MOST → HasValue (minus a b) true (b - a) 1
unfolding sum
minus-up a b h k = rw (lt-ltb a b h) (round_whole binary64 true (b - a) (omega arith))

-- k of the d-ths are l - m of them
parts : (k m l d : ℕ) → k + m ≡ l → k * d + m * d ≡ l * d
parts k m l d h = rw (← add-mul k m d, h)

near_whole : (m : ℕ) (t : Bool) (n : ℕ) (d : ℤ) → m ≤ 2 ^ 54 → lt (minus MOST m) (fin t n d) ≡ sum_above false (m * down d) t (n * up d) (MOST * down d)
near_whole m t n d h = go (ltb MOST m) refl
  where
    under : (t : Bool) → m ≤ MOST → below false ((MOST - m) * down d) t (n * up d) ≡ sum_above false (m * down d) t (n * up d) (MOST * down d)
    under false k =
        let e = parts (MOST - m) m MOST (down d) (omega arith) in
        test_same ((MOST - m) * down d) (n * up d) (MOST * down d) (m * down d + n * up d) (λ p. omega arith) (λ p. omega arith)
    under true k =
        let e = parts (MOST - m) m MOST (down d) (omega arith) in
        sym (le-ltb (n * up d + MOST * down d) (m * down d) (omega arith))

    over : (t : Bool) → MOST < m → below true ((m - MOST) * down d) t (n * up d) ≡ sum_above false (m * down d) t (n * up d) (MOST * down d)
    over false k =
        let e = parts (m - MOST) MOST m (down d) (omega arith) in
        let g : 0 < (m - MOST) * down d = mul-pos (omega arith) (down_pos d) in
        lt-ltb 0 ((m - MOST) * down d + n * up d) (omega arith) ∙ sym (lt-ltb (MOST * down d) (m * down d + n * up d) (omega arith))
    over true k =
        let e = parts (m - MOST) MOST m (down d) (omega arith) in
        test_same (n * up d) ((m - MOST) * down d) (n * up d + MOST * down d) (m * down d) (λ p. omega arith) (λ p. omega arith)

    go : (b : Bool) → ltb MOST m ≡ b → lt (minus MOST m) (fin t n d) ≡ sum_above false (m * down d) t (n * up d) (MOST * down d)
    go false p =
        let k : m ≤ MOST = ltb-false MOST m p in
        lt_whole (minus MOST m) false (MOST - m) t n d (minus_down MOST m k (omega arith)) ∙ under t k
    go true p =
        let k : MOST < m = ltb-true MOST m p in
        lt_whole (minus MOST m) true (m - MOST) t n d (minus-up MOST m k (omega arith)) ∙ over t k

is_finite : (m : ℕ) → m ≤ 2 ^ 54 → (s : Bool) × (v : ℕ) × HasValue (minus MOST m) s v 1
is_finite m h = go (ltb MOST m) refl
  where
    go : (b : Bool) → ltb MOST m ≡ b → (s : Bool) × (v : ℕ) × HasValue (minus MOST m) s v 1
    go false p = (false, MOST - m, minus_down MOST m (ltb-false MOST m p) (omega arith))
    go true p = (true, m - MOST, minus-up MOST m (ltb-true MOST m p) (omega arith))

lt-inf : (x : Float) (s : Bool) (v : ℕ) (t : Bool) → HasValue x s v 1 → lt x (inf t) ≡ not t
unfolding lt
lt-inf nan s v t h = absurd h
lt-inf (inf r) s v t h = absurd h
lt-inf (fin r m e) s v t h = refl

lt-nan : (x : Float) → lt x nan ≡ false
unfolding lt
lt-nan nan = refl
lt-nan (inf s) = refl
lt-nan (fin s m e) = refl

difference : (m : ℕ) (e : ℤ) → down e ≡ 1 → sub binary64 (of_bits binary64 0x4340_0000_0000_0000) (fin false m e) ≡ minus MOST (m * up e)
unfolding sub add neg of_bits of_fields odd
difference m e w = rw (w, mul-one (m * up e))

near-case : (m : ℕ) (e : ℤ) (b : Float) → down e ≡ 1 → m * up e ≤ 2 ^ 54 → lt (minus MOST (m * up e)) b ≡ merge_saturates (fin false m e) b
unfolding merge_saturates
near-case m e nan w k = lt-nan (minus MOST (m * up e))
near-case m e (inf t) w k = let x = is_finite (m * up e) k in lt-inf (minus MOST (m * up e)) x.0 x.1 t x.2
near-case m e (fin t n d) w k =
    rw (above-sum false (m * up e * down d) t (n * up d * down e) (MOST * (down e * down d)), w, mul-one (n * up d), one-mul (down d)) (near_whole (m * up e) t n d k)

pub near_test : (a b : Float) → T (fits binary64 a) → near a ≡ true → lt (sub binary64 (of_bits binary64 0x4340_0000_0000_0000) a) b ≡ merge_saturates a b
unfolding near le of_bits
near_test nan b f h = absurd (false≢true h)
near_test (inf true) b f h = absurd (false≢true h)
near_test (inf false) b f h = absurd (false≢true h)
near_test (fin true m e) b f h = absurd (false≢true (sym (near-negative m e) ∙ h))
near_test (fin false m e) b f h =
    let t = (and-eq-true_iff (leb (2 ^ 52 * down e) (m * up e)) (leb (m * up e) (2 ^ 54 * down e))).0 (sym (near-fin m e) ∙ h) in
    let w = whole false m e f (leb-true (2 ^ 52 * down e) (m * up e) t.0) in
    let g = leb-true (m * up e) (2 ^ 54 * down e) t.1 in
    rw (difference m e w) (near-case m e b w (omega arith))

-- ---- far: above 2^53 the exact sum is 2^53 + 2 at least, so that the rounded one is above 2^53 too
far_says : (m : ℕ) (e : ℤ) → near (fin false m e) ≡ false → (m * up e < 2 ^ 52 * down e) ⊎ (2 ^ 54 * down e < m * up e)
far_says m e h =
    ⊎_elim (λ p. inl (leb-false (2 ^ 52 * down e) (m * up e) p)) (λ p. inr (leb-false (m * up e) (2 ^ 54 * down e) p))
    (either (leb (2 ^ 52 * down e) (m * up e)) (leb (m * up e) (2 ^ 54 * down e)) (sym (near-fin m e) ∙ h))

-- m / e and n / d are two sizes, m · d and n · e over e · d. Neither is from 2^52 to 2^54.
abbrev Far : ℕ → ℕ → Type 0
Far m e = (m < 2 ^ 52 * e) ⊎ (2 ^ 54 * e < m)

abbrev Even : ℕ → ℕ → Type 0
Even m e = 2 ^ 53 * e < m → (h : ℕ) × (m ≡ 2 * h) × (e ≡ 1)

-- over a common denominator
wider : (k m e d : ℕ) → k * e ≤ m → k * (e * d) ≤ m * d
wider k m e d h = rw (← mul_assoc k e d) (mul-le-mul_right d h)

gap-plus : (m e n d : ℕ) → 0 < e → 0 < d → Far m e → Far n d → Gap false (m * d) false (n * e) (e * d)
gap-plus m e n d E D (inr p) y h =
    let w = wider (2 ^ 54) m e d (omega arith) in
    let c : 0 < e * d = mul-pos E D in
    omega arith
gap-plus m e n d E D (inl p) (inr q) h =
    let w : 2 ^ 54 * (d * e) ≤ n * e = wider (2 ^ 54) n d e (omega arith) in
    let c : 0 < e * d = mul-pos E D in
    omega (arith, mul_comm d e)
gap-plus m e n d E D (inl p) (inl q) h =
    let v : m * d ≤ 2 ^ 52 * (e * d) = rw (← mul_assoc (2 ^ 52) e d) (mul-le-mul_right d (le_of_lt p)) in
    let w : n * e ≤ 2 ^ 52 * (d * e) = rw (← mul_assoc (2 ^ 52) d e) (mul-le-mul_right e (le_of_lt q)) in
    omega (arith, mul_comm d e)

gap-minus : (m e n d : ℕ) → 0 < e → 0 < d → Far m e → Even m e → Even n d → Gap false (m * d) true (n * e) (e * d)
gap-minus m e n d E D (inl p) x y h =
    let v : m * d ≤ 2 ^ 52 * (e * d) = rw (← mul_assoc (2 ^ 52) e d) (mul-le-mul_right d (le_of_lt p)) in
    omega arith
gap-minus m e n d E D (inr p) x y h = go (x (omega arith)) (ltb (2 ^ 53 * d) n) refl
  where
    go : (h : ℕ) × (m ≡ 2 * h) × (e ≡ 1) → (b : Bool) → ltb (2 ^ 53 * d) n ≡ b → n * e + (MOST + 2) * (e * d) ≤ m * d
    go (k, i, j) true q =
        let z = y (ltb-true (2 ^ 53 * d) n q) in
        let r : n * 1 + MOST * (1 * 1) < m * 1 = rw (j, z.2) at h in
        rw (j, z.2) (omega (arith, z.1))
    go (k, i, j) false q =
        let r : n ≤ 2 ^ 53 * d = ltb-false (2 ^ 53 * d) n q in
        let g : 2 ^ 54 + 2 ≤ m = omega arith in
        let w : (2 ^ 54 + 2) * d ≤ m * d = mul-le-mul_right d g in
        rw (j, mul-one n, one-mul d) (omega arith)

far_gap : (s : Bool) (m : ℕ) (e : ℤ) (t : Bool) (n : ℕ) (d : ℤ) → T (fits binary64 (fin s m e)) → T (fits binary64 (fin t n d)) → near (fin s m e) ≡ false → near (fin t n d) ≡ false
    → Gap s (m * up e * down d) t (n * up d * down e) (down e * down d)
far_gap false m e false n d f g x y = gap-plus (m * up e) (down e) (n * up d) (down d) (down_pos e) (down_pos d) (far_says m e x) (far_says n d y)
far_gap false m e true n d f g x y = gap-minus (m * up e) (down e) (n * up d) (down d) (down_pos e) (down_pos d) (far_says m e x) (even false m e f) (even true n d g)
far_gap true m e false n d f g x y = rw (mul_comm (down e) (down d)) (gap-minus (n * up d) (down d) (m * up e) (down e) (down_pos d) (down_pos e) (far_says n d y) (even false n d g) (even true m e f))
far_gap true m e true n d f g x y = tt

pub far_test : (a b : Float) → T (fits binary64 a) → T (fits binary64 b) → near a ≡ false → near b ≡ false → lt (of_bits binary64 0x4340_0000_0000_0000) (add binary64 a b) ≡ merge_saturates a b
unfolding lt add of_bits of_fields odd merge_saturates
far_test nan b f g x y = refl
far_test (inf s) nan f g x y = refl
far_test (inf true) (inf true) f g x y = refl
far_test (inf true) (inf false) f g x y = refl
far_test (inf false) (inf true) f g x y = refl
far_test (inf false) (inf false) f g x y = refl
far_test (inf s) (fin t n d) f g x y = refl
far_test (fin s m e) nan f g x y = refl
far_test (fin s m e) (inf t) f g x y = refl
far_test (fin s m e) (fin t n d) f g x y =
    rw (above-sum s (m * up e * down d) t (n * up d * down e) (MOST * (down e * down d))) (sum-above s (m * up e * down d) t (n * up d * down e) (down e * down d) (mul-pos (down_pos e) (down_pos d)) (far_gap s m e t n d f g x y))

-- ---- below: a rounded sum below 2^53 is of an exact one that is not above
pub below_test : (a b : Float) → lt (add binary64 a b) (of_bits binary64 0x4340_0000_0000_0000) ≡ true → merge_saturates a b ≡ false
unfolding lt add of_bits of_fields odd merge_saturates
below_test nan b h = refl
below_test (inf s) nan h = refl
below_test (inf true) (inf t) h = refl
below_test (inf false) (inf true) h = refl
below_test (inf false) (inf false) h = absurd (false≢true h)
below_test (inf true) (fin t n d) h = refl
below_test (inf false) (fin t n d) h = absurd (false≢true h)
below_test (fin s m e) nan h = refl
below_test (fin s m e) (inf true) h = refl
below_test (fin s m e) (inf false) h = absurd (false≢true h)
below_test (fin s m e) (fin t n d) h =
    rw (above-sum s (m * up e * down d) t (n * up d * down e) (MOST * (down e * down d)))
    (go (sum_above s (m * up e * down d) t (n * up d * down e) (MOST * (down e * down d))) refl)
  where
    go : (b : Bool) → sum_above s (m * up e * down d) t (n * up d * down e) (MOST * (down e * down d)) ≡ b → b ≡ false
    go false p = refl
    go true p = absurd (false≢true (sym (sum_reaches s (m * up e * down d) t (n * up d * down e) (down e * down d) (mul-pos (down_pos e) (down_pos d)) p) ∙ h))
