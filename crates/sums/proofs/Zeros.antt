-- A zero added to a number that the format holds. No comparison can tell the sum from the number, and but for +0 added to -0 the sum is the number. Assumes nothing.
use Prim.Native.Nat.{ℕ, zero, suc, ◌+◌, ◌-◌, ◌*◌, ◌/◌, ◌%◌, ◌^◌, ◌≤◌, ◌<◌}
use mathlib.Core.Path.{◌≡◌, refl, sym, ap, ◌∙◌}
use mathlib.Core.Bool.{Bool, true, false, ◌&&◌, ◌||◌, beq, cond, true≢false}
use native.Mathlib.Nat.{add-zero, zero-add, sub-zero, zero-mul, mul-one, mul_assoc, mul_comm, mul_right_comm, mul-pos, zero-lt-suc, lt_of_lt_of_le, mul-lt-mul_of_pos_right}
use native.Mathlib.Omega.{arith}
use lib.IntN.{ℤ, pos, negsuc}
use lib.Dec.{T, ltb, leb, eqb, ltb→lt, leb→le, eqb→eq}
use lib.Pow.{pow-add, pow_pos, pow_mono, pow-lt, shl_lt}
use lib.Ieee.{Float, nan, inf, fin, Format, binary64, prec, emax, low, hid, top, up, down, size, round, sum, add, lt, le, eq, fits, of_bits, of_fields, odd, to_bits}
use lib.Ieee.Fits.{and_l, and_r, up_pos, down_pos, reach, round-fits}
use lib.Ieee.Bits.{of_bits-to_bits}
use lib.Ieee.Nearest.{div_same}
use lib.Ieee.Exact.{HasValue, round_exact}
use lib.Ieee.Scale.{round_same}
use lib.Ieee.Digits.{back}
use borrow.Author.Tests.{lt-ltb, le-ltb, ltb-true, ltb-false, eqb-true}
use Rattle.sums.specs.Sum.{zero_f}

-- ---- a number that the format holds

-- m · 2 ^ e has few digits, none too fine, and is below the format's end
record Held (f : Format) (m : ℕ) (e : ℤ) : Type 0 where
  small : m < 2 ^ prec f
  fine : down e ≤ 2 ^ low f
  bounded : m * up e < 2 ^ suc (emax f) * down e

-- a zero is written with the exponent 0
flat : (e : ℤ) → up e * down e ≡ 1 → e ≡ pos 0
flat (pos zero) h = refl
flat (pos (suc k)) h = let p : 2 ^ 0 < 2 ^ suc k = pow-lt (zero-lt-suc k) in absurd (omega arith)
flat (negsuc k) h = let p : 2 ^ 0 < 2 ^ suc k = pow-lt (zero-lt-suc k) in absurd (omega arith)

zero_exponent : (f : Format) (s : Bool) (e : ℤ) → T (fits f (fin s zero e)) → e ≡ pos 0
unfolding fits
zero_exponent f s e t = flat e (eqb→eq (up e * down e) 1 t)

held : (f : Format) (s : Bool) (m : ℕ) (e : ℤ) → T (fits f (fin s m e)) → Held f m e
unfolding fits
held f s zero e t =
    let z : e ≡ pos 0 = zero_exponent f s e t in
    record { small = pow_pos (prec f); fine = rw z (pow_pos (low f)); bounded = rw (z, mul-one) (pow_pos (suc (emax f))) }
held f s (suc m) e t =
    let a = eqb (suc m % 2) 1 in
    let b = ltb (suc m) (2 ^ prec f) in
    let c = leb (down e) (2 ^ low f) in
    let d = ltb (suc m * up e) (2 ^ suc (emax f) * down e) in
    record {
      small = ltb→lt (suc m) (2 ^ prec f) (and_r a b (and_l (a && b) c (and_l (a && b && c) d t)));
      fine = leb→le (down e) (2 ^ low f) (and_r (a && b) c (and_l (a && b && c) d t));
      bounded = ltb→lt (suc m * up e) (2 ^ suc (emax f) * down e) (and_r (a && b && c) d t);
    }

not-above : (k l : ℕ) → 2 ^ k ≤ 2 ^ l → k ≤ l
not-above k l h = ltb-false l k (go (ltb l k) refl)
  where
    go : (b : Bool) → ltb l k ≡ b → ltb l k ≡ false
    go true e = let p : 2 ^ l < 2 ^ k = pow-lt (ltb-true l k e) in absurd (omega arith)
    go false e = e

-- its value is kept by rounding
round_value : (f : Format) (s : Bool) (m : ℕ) (e : ℤ) → Held f m e → HasValue (round f s (m * up e) (down e)) s (m * up e) (down e)
round_value f s m (pos k) h =
    round_exact f s (m * 2 ^ k) 1 m (k + low f) (omega arith) h.small below (rw (pow-add 2 k (low f), mul-one) (mul_assoc m (2 ^ k) (2 ^ low f)))
  where
    below : m * 2 ^ (k + low f) < 2 ^ (low f + suc (emax f))
    below =
        let l : m * 2 ^ k < 2 ^ suc (emax f) = rw mul-one at h.bounded in
        rw (pow-add 2 k (low f), ← mul_assoc, pow-add 2 (low f) (suc (emax f)), mul_comm (2 ^ low f) (2 ^ suc (emax f))) (mul-lt-mul_of_pos_right l (pow_pos (low f)))
round_value f s m (negsuc k) h =
    let j = low f - suc k in
    let low-is : j + suc k ≡ low f = back (low f) (suc k) (not-above (suc k) (low f) h.fine) in
    round_exact f s (m * 1) (2 ^ suc k) m j (pow_pos (suc k)) h.small
    (lt_of_lt_of_le (shl_lt (prec f) j h.small) (pow_mono (omega (arith, reach f, low-is))))
    (ap (λ (n : ℕ). n * 2 ^ low f) (mul-one m) ∙ ap (λ (n : ℕ). m * 2 ^ n) (sym low-is) ∙ ap (λ (n : ℕ). m * n) (pow-add 2 j (suc k)) ∙ sym (mul_assoc m (2 ^ j) (2 ^ suc k)))

-- two that are the same fraction with the same sign have the same bit pattern, and so are the same
same_bits : (f : Format) (s : Bool) (m : ℕ) (e : ℤ) (n : ℕ) (d : ℤ) → n * up d * down e ≡ m * up e * down d → to_bits f (fin s n d) ≡ to_bits f (fin s m e)
unfolding to_bits
same_bits f s m e n d h =
    let l = 2 ^ low f in
    ap (λ (w : ℕ). cond s (top f) 0 + (size w - prec f) * hid f + w / 2 ^ (size w - prec f))
    (div_same (n * up d * l) (down d) (m * up e * l) (down e) (down_pos d) (down_pos e) (mul_right_comm (n * up d) l (down e) ∙ ap (λ (w : ℕ). w * l) h ∙ mul_right_comm (m * up e) (down d) l))

same_number : (f : Format) (y : Float) (s : Bool) (m : ℕ) (e : ℤ) → T (fits f y) → T (fits f (fin s m e)) → HasValue y s (m * up e) (down e) → y ≡ fin s m e
same_number f nan s m e p q v = absurd v
same_number f (inf t) s m e p q v = absurd v
same_number f (fin t n d) s m e p q v =
    sym (of_bits-to_bits f (fin t n d) p) ∙ ap (of_bits f) (ap (λ (b : Bool). to_bits f (fin b n d)) v.0 ∙ same_bits f s m e n d v.1) ∙ of_bits-to_bits f (fin s m e) q

-- so rounding changes nothing, over whatever denominator the number stands
round_own : (f : Format) (s : Bool) (m : ℕ) (e : ℤ) (k : ℕ) → 0 < k → T (fits f (fin s m e)) → round f s (m * up e * k) (down e * k) ≡ fin s m e
round_own f s m e k K h =
    round_same f s (m * up e * k) (down e * k) (m * up e) (down e) (mul-pos (down_pos e) K) (down_pos e) (mul_assoc (m * up e) k (down e) ∙ ap (λ (n : ℕ). m * up e * n) (mul_comm k (down e)))
    ∙ same_number f _ s m e (round-fits f s (m * up e) (down e)) h (round_value f s m e (held f s m e h))

-- ---- a zero added

-- +0 or -0, however its exponent is written
pub record Zero (x : Float) : Type 0 where
  pub sign : Bool
  pub exponent : ℤ
  pub is : x ≡ fin sign 0 exponent

no_digits : (m u : ℕ) → 0 < u → m * u ≡ 0 → m ≡ 0
no_digits zero u U h = refl
no_digits (suc m) u U h = absurd (omega (arith, mul-pos (zero-lt-suc m) U))

-- a number at or below 0 that is not below it is a zero
pub is_zero : (x : Float) → le x zero_f ≡ true → lt x zero_f ≡ false → Zero x
unfolding le lt eq of_bits of_fields odd
is_zero nan h l = absurd (true≢false (sym h))
is_zero (inf true) h l = absurd (true≢false l)
is_zero (inf false) h l = absurd (true≢false (sym h))
is_zero (fin true m e) h l =
    let z : m * up e * 1 + 0 * down e ≤ 0 = ltb-false 0 (m * up e * 1 + 0 * down e) l in
    record { sign = true; exponent = e; is = ap (λ (k : ℕ). fin true k e) (no_digits m (up e) (up_pos e) (omega arith)) }
is_zero (fin false m e) h l = record { sign = false; exponent = e; is = ap (λ (k : ℕ). fin false k e) (no_digits m (up e) (up_pos e) (go (eqb (m * up e * 1) (0 * down e)) refl (rw l at h))) }
  where
    go : (b : Bool) → eqb (m * up e * 1) (0 * down e) ≡ b → b && true ≡ true → m * up e ≡ 0
    go true q w = let z : m * up e * 1 ≡ 0 * down e = eqb-true (m * up e * 1) (0 * down e) q in omega arith
    go false q w = absurd (true≢false (sym w))

abbrev pub minus_zero : Float
minus_zero = fin true 0 (pos 0)

abbrev pub plus_zero : Float
plus_zero = fin false 0 (pos 0)

sum-some : (f : Format) (s : Bool) (a : ℕ) (t : Bool) (c : ℕ) → 0 < a → sum f s a t 0 c ≡ round f s a c
unfolding sum
sum-some f true a true c A = rw add-zero
sum-some f false a false c A = rw add-zero
sum-some f true a false c A = rw (le-ltb a 0 (omega arith), lt-ltb 0 a A, sub-zero)
sum-some f false a true c A = rw (le-ltb a 0 (omega arith), sub-zero)

sum-none : (f : Format) (s t : Bool) (c : ℕ) → sum f s 0 t 0 c ≡ round f (s && t) 0 c
unfolding sum
sum-none f true true c = refl
sum-none f false false c = refl
sum-none f true false c = refl
sum-none f false true c = refl

-- the number over its own denominator times the zero's, plus no unit of either sign
added : (f : Format) (s : Bool) (m : ℕ) (e : ℤ) (t : Bool) (d : ℤ) → add f (fin s m e) (fin t 0 d) ≡ sum f s (m * up e * down d) t 0 (down e * down d)
unfolding add
added f s m e t d = rw (zero-mul, zero-mul)

-- two zeros: the sum is -0 where both are
zeros_added : (f : Format) (s : Bool) (e : ℤ) (t : Bool) (d : ℤ) → T (fits f (fin s 0 e)) → add f (fin s 0 e) (fin t 0 d) ≡ fin (s && t) 0 e
zeros_added f s e t d h =
    let none : 0 * up e * down d ≡ 0 = rw (zero-mul, zero-mul) in
    added f s 0 e t d ∙ ap (λ (a : ℕ). sum f s a t 0 (down e * down d)) none ∙ sum-none f s t (down e * down d)
    ∙ ap (λ (a : ℕ). round f (s && t) a (down e * down d)) (sym none) ∙ round_own f (s && t) 0 e (down d) (down_pos d) (unfold fits in h)

some_added : (f : Format) (s : Bool) (m : ℕ) (e : ℤ) (t : Bool) (d : ℤ) → T (fits f (fin s (suc m) e)) → add f (fin s (suc m) e) (fin t 0 d) ≡ fin s (suc m) e
some_added f s m e t d h =
    added f s (suc m) e t d ∙ sum-some f s (suc m * up e * down d) t (down e * down d) (mul-pos (mul-pos (zero-lt-suc m) (up_pos e)) (down_pos d)) ∙ round_own f s (suc m) e (down d) (down_pos d) h

-- every number but -0 is unchanged by a zero of either sign, and -0 by -0
pub zero_added : (f : Format) (x : Float) (t : Bool) (d : ℤ) → T (fits f x) → (x ≡ minus_zero → t ≡ true) → add f x (fin t 0 d) ≡ x
unfolding add
zero_added f nan t d h n = refl
zero_added f (inf s) t d h n = refl
zero_added f (fin false zero e) t d h n = zeros_added f false e t d h
zero_added f (fin true zero e) t d h n = zeros_added f true e t d h ∙ ap (λ (b : Bool). fin b 0 e) (n (ap (fin true 0) (zero_exponent f true e h)))
zero_added f (fin s (suc m) e) t d h n = some_added f s m e t d h

-- ---- comparisons

-- No comparison with any number tells the two apart. (`le` and `ne` are made of these.)
pub record Alike (x y : Float) : Type 0 where
  pub lt-left : (z : Float) → lt x z ≡ lt y z
  pub lt_right : (z : Float) → lt z x ≡ lt z y
  pub eq-left : (z : Float) → eq x z ≡ eq y z
  pub eq_right : (z : Float) → eq z x ≡ eq z y

same_alike : (x y : Float) → x ≡ y → Alike x y
same_alike x y e = record { lt-left = λ z. rw e; lt_right = λ z. rw e; eq-left = λ z. rw e; eq_right = λ z. rw e }

zeros_alike : Alike plus_zero minus_zero
unfolding lt eq
zeros_alike = record { lt-left = lt-left; lt_right = lt_right; eq-left = eq-left; eq_right = eq_right }
  where
    lt-left : (z : Float) → lt plus_zero z ≡ lt minus_zero z
    lt-left nan = refl
    lt-left (inf t) = refl
    lt-left (fin true n d) = rw zero-mul (sym (le-ltb (n * up d * 1) 0 (omega arith)))
    lt-left (fin false n d) = rw (zero-mul, zero-add)

    lt_right : (z : Float) → lt z plus_zero ≡ lt z minus_zero
    lt_right nan = refl
    lt_right (inf t) = refl
    lt_right (fin true n d) = rw (zero-mul, add-zero)
    lt_right (fin false n d) = rw zero-mul (le-ltb (n * up d * 1) 0 (omega arith))

    eq-left : (z : Float) → eq plus_zero z ≡ eq minus_zero z
    eq-left nan = refl
    eq-left (inf t) = refl
    eq-left (fin true n d) = rw zero-mul
    eq-left (fin false n d) = rw zero-mul

    eq_right : (z : Float) → eq z plus_zero ≡ eq z minus_zero
    eq_right nan = refl
    eq_right (inf t) = refl
    eq_right (fin t n d) = rw zero-mul (go t (eqb (n * up d * 1) 0))
      where
        go : (t b : Bool) → (b && (beq t false || b)) ≡ (b && (beq t true || b))
        go true true = refl
        go false true = refl
        go t false = refl

-- a zero of either sign added to a number that the format holds changes no comparison
pub zero_alike : (f : Format) (x : Float) (t : Bool) (d : ℤ) → T (fits f x) → Alike (add f x (fin t 0 d)) x
zero_alike f nan t d h = unfold add in same_alike _ _ refl
zero_alike f (inf s) t d h = unfold add in same_alike _ _ refl
zero_alike f (fin s (suc m) e) t d h = same_alike _ _ (some_added f s m e t d h)
zero_alike f (fin false zero e) t d h = same_alike _ _ (zeros_added f false e t d h)
zero_alike f (fin true zero e) true d h = same_alike _ _ (zeros_added f true e true d h)
zero_alike f (fin true zero e) false d h = rw (zeros_added f true e false d h, zero_exponent f true e h) zeros_alike

-- ---- where it would not hold
-- +0 added to -0 is +0: the sign, and so the bit pattern, is another
pub the_sign : add binary64 minus_zero plus_zero ≡ plus_zero
unfolding add
the_sign = refl

-- 2 ^ 53 + 1, which binary64 does not hold, is rounded down by the addition, and a comparison tells
abbrev beyond : Float
beyond = fin false 0x20_0000_0000_0001 (pos 0)

pub not_held : (fits binary64 beyond ≡ false) × (lt (add binary64 beyond plus_zero) beyond ≡ true) × (lt beyond beyond ≡ false)
unfolding fits add lt
not_held = (refl, refl, refl)
