-- Sums of binary64 numbers that are whole: exact up to 2^53 in size, and the float of a sum is the sum of the floats. Assumes nothing.
use Prim.Native.Nat.{ℕ, zero, suc, ◌+◌, ◌-◌, ◌*◌, ◌^◌, ◌≤◌, ◌<◌}
use mathlib.Core.Path.{◌≡◌, refl, sym, ap, ◌∙◌, subst}
use mathlib.Core.Bool.{Bool, true, false, ◌&&◌, cond, false≢true}
use native.Mathlib.Omega.{arith}
use native.Mathlib.Nat.{add-mul, mul-sub, mul_comm, mul-one, mul-zero, zero-mul, mul_assoc, mul-mul-mul_comm, mul-pos, mul-le-mul_right, mul-lt-mul_of_pos_right}
use lib.IntN.{ℤ, pos, negsuc, neg_ℤ, nat_abs, sub_ℕ, ◌+ℤ◌, ◌*ℤ◌, +ℤ_comm, neg_ℤ-+ℤ}
use lib.Dec.{ltb}
use lib.Ieee.{Float, nan, inf, fin, Format, binary64, up, down, unlike, round, sum, add, mul, of_int}
use lib.Ieee.Fits.{down_pos}
use lib.Ieee.Exact.{HasValue}
use lib.Ieee.Back.{round_whole}
use lib.Ieee.Scale.{round_same}
use borrow.Author.Tests.{ltb-true, ltb-false, lt-ltb, le-ltb}
use Rattle.counts.specs.Whole.{signed, float_of, Whole}

-- ---- signed numbers
pub signed-size : (s : Bool) (n : ℕ) → nat_abs (signed s n) ≡ n
signed-size false n = refl
signed-size true zero = refl
signed-size true (suc n) = refl

-- a - b, by which is the greater
difference : (a b : ℕ) → pos a +ℤ neg_ℤ (pos b) ≡ sub_ℕ a b
difference a zero = rw (le-ltb a 0 (omega arith)) (ap pos (omega arith))
difference a (suc b) = refl

pub difference_down : (a b : ℕ) → ltb a b ≡ false → pos a +ℤ neg_ℤ (pos b) ≡ pos (a - b)
difference_down a b h = difference a b ∙ rw h

pub difference-up : (a b : ℕ) → ltb a b ≡ true → pos a +ℤ neg_ℤ (pos b) ≡ neg_ℤ (pos (b - a))
difference-up a b h =
    let l : a < b = ltb-true a b h in
    let e : b - a ≡ suc (b - suc a) = omega arith in
    difference a b ∙ rw (h, e)

-- ---- a common factor of both sides may go
pub ltb-scaled : (a b k : ℕ) → 0 < k → ltb (a * k) (b * k) ≡ ltb a b
ltb-scaled a b k h = go (ltb a b) refl
  where
    go : (t : Bool) → ltb a b ≡ t → ltb (a * k) (b * k) ≡ t
    go true p = lt-ltb (a * k) (b * k) (mul-lt-mul_of_pos_right (ltb-true a b p) h)
    go false p = le-ltb (a * k) (b * k) (mul-le-mul_right k (ltb-false a b p))

sub-mul : (a b c : ℕ) → a * c - b * c ≡ (a - b) * c
sub-mul a b c = rw (mul_comm a c, mul_comm b c, ← mul-sub c a b, mul_comm c (a - b))

reduced : (f : Format) (s : Bool) (n c : ℕ) → 0 < c → round f s (n * c) c ≡ round f s n 1
reduced f s n c C = round_same f s (n * c) c n 1 C (omega arith) (mul-one (n * c))

sum_reduced : (f : Format) (s : Bool) (a : ℕ) (t : Bool) (b c : ℕ) → 0 < c → sum f s (a * c) t (b * c) c ≡ sum f s a t b 1
unfolding sum
sum_reduced f s a t b c C =
    rw (
      ltb-scaled a b c C,
      ltb-scaled b a c C,
      ← add-mul a b c,
      sub-mul a b c,
      sub-mul b a c,
      reduced f s (a + b) c C,
      reduced f t (b - a) c C,
      reduced f _ (a - b) c C,
    )

-- ---- the sum of two whole numbers, rounded once

-- m · 2^e is the whole number a: over a further denominator c
pub over-both : (m : ℕ) (e : ℤ) (c a : ℕ) → m * up e * 1 ≡ a * down e → m * up e * c ≡ a * (down e * c)
over-both m e c a h = ap (λ (z : ℕ). z * c) (sym (mul-one (m * up e)) ∙ h) ∙ mul_assoc a (down e) c

add_values : (f : Format) (x y : Float) (s : Bool) (a : ℕ) (t : Bool) (b : ℕ) → HasValue x s a 1 → HasValue y t b 1 → add f x y ≡ sum f s a t b 1
unfolding add
add_values f nan y s a t b h k = absurd h
add_values f (inf r) y s a t b h k = absurd h
add_values f (fin r m e) nan s a t b h k = absurd k
add_values f (fin r m e) (inf u) s a t b h k = absurd k
add_values f (fin r m e) (fin u n d) s a t b h k =
    let c = down e * down d in
    let p : m * up e * down d ≡ a * c = ap (λ (z : ℕ). z * down d) (sym (mul-one (m * up e)) ∙ h.1) ∙ mul_assoc a (down e) (down d) in
    let q : n * up d * down e ≡ b * c =
    ap (λ (z : ℕ). z * down e) (sym (mul-one (n * up d)) ∙ k.1) ∙ mul_assoc b (down d) (down e) ∙ ap (λ (z : ℕ). b * z) (mul_comm (down d) (down e)) in
    rw (p, q, h.0, k.0) (sum_reduced f s a t b c (mul-pos (down_pos e) (down_pos d)))

-- a zero with the sign set
abbrev MinusZero : Bool → ℕ → Type 0
MinusZero s n = (s ≡ true) × (n ≡ 0)

-- x is the whole number z, rounded once, and -0 only where M says so
record Rounded (f : Format) (x : Float) (z : ℤ) (M : Type 0) : Type 0 where
  sign : Bool
  size : ℕ
  is : x ≡ round f sign size 1
  exact : signed sign size ≡ z
  minus : MinusZero sign size → M

-- a sum is -0 only where the first summand is
sum_rounded : (f : Format) (s : Bool) (a : ℕ) (t : Bool) (b : ℕ) → Rounded f (sum f s a t b 1) (signed s a +ℤ signed t b) (MinusZero s a)
unfolding sum
sum_rounded f false a false b = record { sign = false; size = a + b; is = refl; exact = refl; minus = λ m. absurd (false≢true m.0) }
sum_rounded f true a true b = record { sign = true; size = a + b; is = refl; exact = neg_ℤ-+ℤ (pos a) (pos b); minus = λ m. (refl, omega (arith, m.1)) }
sum_rounded f false a true b = go (ltb a b) refl
  where
    go : (l : Bool) → ltb a b ≡ l → Rounded f (cond l (round f true (b - a) 1) (round f false (a - b) 1)) (pos a +ℤ neg_ℤ (pos b)) (MinusZero false a)
    go true p = record { sign = true; size = b - a; is = refl; exact = sym (difference-up a b p); minus = λ m. absurd (omega (arith, m.1, ltb-true a b p)) }
    go false p = record { sign = false; size = a - b; is = refl; exact = sym (difference_down a b p); minus = λ m. absurd (false≢true m.0) }
sum_rounded f true a false b = subst (λ z. Rounded f (sum f true a false b 1) z (MinusZero true a)) (+ℤ_comm (pos b) (neg_ℤ (pos a))) (go (ltb a b) (ltb b a) refl refl)
  where
    go : (l r : Bool) → ltb a b ≡ l → ltb b a ≡ r → Rounded f (cond l (round f false (b - a) 1) (round f (true && r) (a - b) 1)) (pos b +ℤ neg_ℤ (pos a)) (MinusZero true a)
    go true true p q = let x = ltb-true a b p in let y = ltb-true b a q in absurd (omega arith)
    go true false p q = record { sign = false; size = b - a; is = refl; exact = sym (difference_down b a q); minus = λ m. absurd (false≢true m.0) }
    go false true p q = record { sign = true; size = a - b; is = refl; exact = sym (difference-up b a q); minus = λ m. absurd (omega (arith, m.1, ltb-true b a q)) }
    go false false p q =
        let e : a - b ≡ b - a = omega (arith, ltb-false a b p, ltb-false b a q) in
        record { sign = false; size = a - b; is = refl; exact = rw e (sym (difference_down b a q)); minus = λ m. absurd (false≢true m.0) }

-- ---- exact where the sum is at most 2^53 in size
pub whole_sum : (x y : Float) (z w : ℤ) → Whole x z → Whole y w → nat_abs (z +ℤ w) ≤ 2 ^ 53 → Whole (add binary64 x y) (z +ℤ w)
whole_sum x y z w (s, a, h, p) (t, b, k, q) l =
    let r = sum_rounded binary64 s a t b in
    let e : signed r.sign r.size ≡ z +ℤ w = r.exact ∙ rw (p, q) in
    let small : r.size ≤ 2 ^ 53 = rw (← signed-size r.sign r.size, e) l in
    (r.sign, r.size, rw (add_values binary64 x y s a t b h k ∙ r.is) (round_whole binary64 r.sign r.size small), e)

-- ---- the float of a whole number is that number, up to 2^53 in size
pub float_whole : (z : ℤ) → nat_abs z ≤ 2 ^ 53 → Whole (float_of z) z
unfolding of_int
float_whole (pos n) h = (false, n, round_whole binary64 false n h, refl)
float_whole (negsuc n) h = (true, suc n, round_whole binary64 true (suc n) h, refl)

-- ---- the float of a sum
float_rounded : (s : Bool) (n : ℕ) → (MinusZero s n → ⊥) → round binary64 s n 1 ≡ float_of (signed s n)
unfolding of_int
float_rounded false n h = refl
float_rounded true zero h = absurd (h (refl, refl))
float_rounded true (suc n) h = refl

sum_float : (x y : Float) (s : Bool) (a : ℕ) (t : Bool) (b : ℕ) → HasValue x s a 1 → HasValue y t b 1 → (MinusZero s a → ⊥) → add binary64 x y ≡ float_of (signed s a +ℤ signed t b)
sum_float x y s a t b h k n =
    let r = sum_rounded binary64 s a t b in
    add_values binary64 x y s a t b h k ∙ r.is ∙ float_rounded r.sign r.size (λ m. n (r.minus m)) ∙ ap float_of r.exact

-- the float of a whole number and another number that is whole, of either zero. Nothing is asked of the sum's size: both sides round it once.
pub float_and_whole : (z w : ℤ) (y : Float) → nat_abs z ≤ 2 ^ 53 → Whole y w → add binary64 (float_of z) y ≡ float_of (z +ℤ w)
unfolding of_int
float_and_whole (pos n) w y h (t, b, k, q) =
    sum_float (float_of (pos n)) y false n t b (round_whole binary64 false n h) k (λ m. absurd (false≢true m.0)) ∙ ap (λ (u : ℤ). float_of (pos n +ℤ u)) q
float_and_whole (negsuc n) w y h (t, b, k, q) =
    sum_float (float_of (negsuc n)) y true (suc n) t b (round_whole binary64 true (suc n) h) k (λ m. absurd (omega (arith, m.1))) ∙ ap (λ (u : ℤ). float_of (negsuc n +ℤ u)) q

-- the floats of two whole numbers
pub float_sum : (z w : ℤ) → nat_abs z ≤ 2 ^ 53 → nat_abs w ≤ 2 ^ 53 → add binary64 (float_of z) (float_of w) ≡ float_of (z +ℤ w)
float_sum z w h k = float_and_whole z w (float_of w) h (float_whole w k)

-- and of two natural numbers
pub float_plus : (n k : ℕ) → n ≤ 2 ^ 53 → k ≤ 2 ^ 53 → add binary64 (float_of (pos n)) (float_of (pos k)) ≡ float_of (pos (n + k))
float_plus n k h l = float_sum (pos n) (pos k) h l

-- ---- the product of two whole numbers, exact where it is at most 2^53 in size. One of them being 0, it may be -0.
signed_product : (s : Bool) (a : ℕ) (t : Bool) (b : ℕ) → signed (unlike s t) (a * b) ≡ signed s a *ℤ signed t b
signed_product false a false b = refl
signed_product false a true zero = rw (mul-zero a)
signed_product false a true (suc b) = refl
signed_product true zero false b = rw (zero-mul b)
signed_product true (suc a) false b = refl
signed_product true zero true zero = rw (mul-zero 0)
signed_product true zero true (suc b) = rw (zero-mul (suc b))
signed_product true (suc a) true zero = rw (mul-zero (suc a))
signed_product true (suc a) true (suc b) = refl

mul_values : (f : Format) (x y : Float) (s : Bool) (a : ℕ) (t : Bool) (b : ℕ) → HasValue x s a 1 → HasValue y t b 1 → mul f x y ≡ round f (unlike s t) (a * b) 1
unfolding mul
mul_values f nan y s a t b h k = absurd h
mul_values f (inf r) y s a t b h k = absurd h
mul_values f (fin r m e) nan s a t b h k = absurd k
mul_values f (fin r m e) (inf u) s a t b h k = absurd k
mul_values f (fin r m e) (fin u n d) s a t b h k =
    let p : m * up e ≡ a * down e = sym (mul-one (m * up e)) ∙ h.1 in
    let q : n * up d ≡ b * down d = sym (mul-one (n * up d)) ∙ k.1 in
    rw (p, q, h.0, k.0, mul-mul-mul_comm a (down e) b (down d)) (reduced f (unlike s t) (a * b) (down e * down d) (mul-pos (down_pos e) (down_pos d)))

pub whole_product : (x y : Float) (z w : ℤ) → Whole x z → Whole y w → nat_abs z * nat_abs w ≤ 2 ^ 53 → Whole (mul binary64 x y) (z *ℤ w)
whole_product x y z w (s, a, h, p) (t, b, k, q) l =
    let small : a * b ≤ 2 ^ 53 = rw (← p, ← q, signed-size s a, signed-size t b) at l in
    (unlike s t, a * b, rw (mul_values binary64 x y s a t b h k) (round_whole binary64 (unlike s t) (a * b) small), signed_product s a t b ∙ rw (p, q))
