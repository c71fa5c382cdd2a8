-- Values of a format that are nearest to √x: where two are equally near, one of them has an odd last digit, so `Nearest` fixes its value. Assumes nothing.
use Rattle.std.proofs.Common.{◌≡◌, ℕ, zero, suc, ◌+◌, ◌-◌, ◌*◌, ◌/◌, ◌%◌, ◌^◌, ◌<◌, ◌≤◌, Bool, true, false, cond, ◌&&◌, T, eqb, ltb, leb, ◌⊎◌, ℤ, sym, refl, ap, ◌∙◌, subst, inl, inr, true≢false, le_trans, le_of_eq, le_refl, lt_of_lt_of_le, lt_of_le_of_lt, le_of_lt, lt_irrefl, mul-le-mul_right, mul_assoc, suc-mul, mul_comm, eq-zero-or-pos, add_comm, le_antisymm, lt_of_mul-lt-mul_right, eq-or-lt_of_le, mul-lt-mul_of_pos_right, mul-pos, lt_of_not-le, le-div_iff_mul-le, zero-mul, mul_right_comm, not-le_of_lt, le_of_mul-le-mul_right, mul-div_cancel, arith, eqb→eq, ltb→lt, lt→ltb, pow_pos, pow_mono, pow-add, shl_lt}
use native.Mathlib.Nat.{pow-succ'}
use native.Mathlib.Decide.{dec_le}
use lib.Pow.{pow-lt, shl-shr}
use lib.Ieee.{Float, nan, inf, fin, Format, binary32, binary64, prec, emax, low, up, down, size, odd, fits, lt, hid, top, to_bits, of_bits}
use lib.Ieee.Digits.{size-lt, size-le, size_reaches}
use lib.Ieee.Fits.{two, two-le_pos, kept-lt, odd-fits, up_pos, down_pos, and_r}
use lib.Ieee.Exact.{HasValue, odd_sign}
use lib.Ieee.Bits.{of_bits-to_bits}
use lib.Ieee.Nearest.{div_same}
use lib.Ieee.Scale.{finite}
use lib.Ieee.Positive.{num, den, den_pos, positive}
use Rattle.square_root.specs.SquareRoot.{Nearest, Tie, sum_squared, four_times, even_digit}
use Rattle.square_root.proofs.Karatsuba.{squares-lt}
use Rattle.square_root.proofs.Gap.{place, gap_up}
use Rattle.square_root.proofs.Values.{Nearer, on_grid, squared, sum_units, units_lt, lt_of_units}

-- ---- the digits that a format of p digits keeps of a number, and how many it drops
abbrev pub drops : (p w : ℕ) → ℕ
drops p w = size w - p

abbrev pub keeps : (p w : ℕ) → ℕ
keeps p w = w / 2 ^ (size w - p)

pred : (p : ℕ) → 0 < p → p ≡ suc (p - 1)
pred p h = omega arith

pub half : (p : ℕ) → 0 < p → 2 ^ p ≡ 2 * 2 ^ (p - 1)
half p h = ap (λ (x : ℕ). 2 ^ x) (pred p h) ∙ pow-succ' 2 (p - 1)

-- where digits are dropped
module _ (p w : ℕ) (P : 0 < p) where
  pub reaches : 0 < drops p w → 2 ^ (p - 1) * 2 ^ drops p w ≤ w
  reaches h = le_trans (le_of_eq (sym (pow-add 2 (p - 1) (drops p w)))) (size_reaches w (p - 1 + drops p w) (in_use (size w) p P h))
    where
      in_use : (z p : ℕ) → 0 < p → 0 < z - p → p - 1 + (z - p) < z
      in_use z p a b = omega arith

  pub lead : 0 < drops p w → 2 ^ (p - 1) ≤ keeps p w
  lead h = (le-div_iff_mul-le (pow_pos (drops p w))).1 (reaches h)

-- a number of at most p digits before its closing zeros has no others
exact : (p q j : ℕ) → 0 < p → q < 2 ^ p → keeps p (q * 2 ^ j) * 2 ^ drops p (q * 2 ^ j) ≡ q * 2 ^ j
exact p q j P small = go (drops p (q * 2 ^ j)) (place (p - 1) q j (drops p (q * 2 ^ j)) (subst (λ (z : ℕ). q < 2 ^ z) (pred p P) small)) (reaches p (q * 2 ^ j) P)
  where
    go : (k : ℕ) → ((t : ℕ) × (q * 2 ^ j ≡ t * 2 ^ k)) ⊎ ((0 < k) × (q * 2 ^ j < 2 ^ (p - 1) * 2 ^ k)) → (0 < k → 2 ^ (p - 1) * 2 ^ k ≤ q * 2 ^ j) → q * 2 ^ j / 2 ^ k * 2 ^ k ≡ q * 2 ^ j
    go k (inl z) r = ap (λ (d : ℕ). d * 2 ^ k) (ap (λ (n : ℕ). n / 2 ^ k) z.1 ∙ mul-div_cancel z.0 (pow_pos k)) ∙ sym z.1
    go k (inr z) r = absurd (not-le_of_lt z.1 (r z.0))

-- two such numbers, a below b: the next one after a is at most b, and below it where the last digits of both are even
module _ (p q j q' j' : ℕ) (P : 0 < p) (few : q < 2 ^ p) (few' : q' < 2 ^ p) (under : q * 2 ^ j < q' * 2 ^ j') where
  abbrev a : ℕ
  a = q * 2 ^ j

  abbrev b : ℕ
  b = q' * 2 ^ j'

  abbrev k : ℕ
  k = drops p (q * 2 ^ j)

  abbrev d : ℕ
  d = keeps p (q * 2 ^ j)

  pub next-above : q * 2 ^ j < suc (keeps p (q * 2 ^ j)) * 2 ^ drops p (q * 2 ^ j)
  next-above = subst (λ (n : ℕ). n < suc d * 2 ^ k) (exact p q j P few) (mul-lt-mul_of_pos_right (le_refl (suc d)) (pow_pos k))

  next-upto : suc (keeps p (q * 2 ^ j)) * 2 ^ drops p (q * 2 ^ j) ≤ q' * 2 ^ j'
  next-upto =
      le_trans (le_of_eq (suc-mul d (2 ^ k)))
      (gap_up (p - 1) k d q' j' (lead p a P) (subst (λ (z : ℕ). q' < 2 ^ z) (pred p P) few') (subst (λ (n : ℕ). n < b) (sym (exact p q j P few)) under))

  pub next_below : keeps p (q * 2 ^ j) % 2 ≡ 0 → keeps p (q' * 2 ^ j') % 2 ≡ 0 → suc (keeps p (q * 2 ^ j)) * 2 ^ drops p (q * 2 ^ j) < q' * 2 ^ j'
  next_below e e' = elim (eq-or-lt_of_le next-upto) [ inl g ↦ absurd (both-even g) | inr g ↦ g ]
    where
      room : suc d < 2 ^ p
      room = go d (2 ^ p) (2 ^ (p - 1)) (kept-lt p a) (half p P) e
        where
          go : (d z h : ℕ) → d < z → z ≡ 2 * h → d % 2 ≡ 0 → suc d < z
          go d z h l g e = omega arith

      -- the next one drops as many digits, and keeps one that is odd
      same-drops : suc d * 2 ^ k ≡ b → drops p b ≡ k
      same-drops g = elim (eq-zero-or-pos k) [ inl z ↦ none (size b) p k most z | inr z ↦ some (size b) p k most (least z) ]
        where
          most : size b ≤ p + k
          most = size-le b (p + k) (subst (λ (n : ℕ). n < 2 ^ (p + k)) g (shl_lt p k room))

          least : 0 < k → p - 1 + k < size b
          least z = lt_of_not-le (λ (l : size b ≤ p - 1 + k). not-le_of_lt (lt_of_lt_of_le (size-lt b) (le_trans (pow_mono l) (le_of_eq (pow-add 2 (p - 1) k)))) (le_trans (reaches p a P z) (le_of_lt under)))

          none : (z p k : ℕ) → z ≤ p + k → k ≡ 0 → z - p ≡ k
          none z p k h e = omega arith

          some : (z p k : ℕ) → z ≤ p + k → p - 1 + k < z → z - p ≡ k
          some z p k h l = omega arith

      both-even : suc d * 2 ^ k ≡ b → ⊥
      both-even g = parity d (keeps p b) (ap (λ (n : ℕ). b / 2 ^ n) (same-drops g) ∙ ap (λ (n : ℕ). n / 2 ^ k) (sym g) ∙ shl-shr (suc d) k) e e'
        where
          parity : (d c : ℕ) → c ≡ suc d → d % 2 ≡ 0 → c % 2 ≡ 0 → ⊥
          parity d c g e f = omega arith

-- ---- values that fit
-- below the format's end
from_fits : (f : Format) (s : Bool) (m : ℕ) (e : ℤ) → T (fits f (fin s m e)) → m * up e < 2 ^ suc (emax f) * down e
unfolding fits
from_fits f s zero e t = subst (λ (n : ℕ). n < 2 ^ suc (emax f) * down e) (sym (zero-mul (up e))) (mul-pos (pow_pos (suc (emax f))) (down_pos e))
from_fits f s (suc m) e t = ltb→lt (suc m * up e) (2 ^ suc (emax f) * down e) (and_r (eqb (suc m % 2) 1 && ltb (suc m) (2 ^ prec f) && leb (down e) (2 ^ low f)) (ltb (suc m * up e) (2 ^ suc (emax f) * down e)) t)

pub below_end : (f : Format) (s : Bool) (m : ℕ) (e : ℤ) (n : ℕ) → T (fits f (fin s m e)) → m * up e * 2 ^ low f ≡ n * down e → n < 2 ^ (low f + suc (emax f))
below_end f s m e n t g =
    lt_of_mul-lt-mul_right (down e)
    (subst (λ (y : ℕ). y < 2 ^ (low f + suc (emax f)) * down e) g
    (subst (λ (y : ℕ). m * up e * 2 ^ low f < y) (mul_right_comm (2 ^ suc (emax f)) (down e) (2 ^ low f) ∙ ap (λ (y : ℕ). y * down e) (mul_comm (2 ^ suc (emax f)) (2 ^ low f) ∙ sym (pow-add 2 (low f) (suc (emax f)))))
    (mul-lt-mul_of_pos_right (from_fits f s m e t) (pow_pos (low f)))))

-- the pattern of n units
bits_is : (f : Format) (s : Bool) (m : ℕ) (e : ℤ) (n : ℕ) → m * up e * 2 ^ low f / down e ≡ n → to_bits f (fin s m e) ≡ cond s (top f) 0 + drops (prec f) n * hid f + keeps (prec f) n
unfolding to_bits
bits_is f s m e n p = ap (λ (x : ℕ). cond s (top f) 0 + drops (prec f) x * hid f + keeps (prec f) x) p

last_even : (f : Format) (m : ℕ) (e : ℤ) (n : ℕ) → m * up e * 2 ^ low f ≡ n * down e → T (even_digit f (fin false m e)) → keeps (prec f) n % 2 ≡ 0
last_even f m e n g t =
    go f (drops (prec f) n) (keeps (prec f) n)
    (ap (λ (x : ℕ). x % 2) (sym (bits_is f false m e n (ap (λ (x : ℕ). x / down e) g ∙ mul-div_cancel n (down_pos e)))) ∙ eqb→eq (to_bits f (fin false m e) % 2) 0 t)
  where
    go : (f : Format) (k d : ℕ) → (0 + k * hid f + d) % 2 ≡ 0 → d % 2 ≡ 0
    go binary32 k d h = omega arith
    go binary64 k d h = omega arith

-- two values above zero that fit and are the same fraction are the same value: they have the same bit pattern
same_value : (f : Format) (m : ℕ) (e : ℤ) (n : ℕ) (d : ℤ) → T (fits f (fin false m e)) → T (fits f (fin false n d)) → m * up e * down d ≡ n * up d * down e → fin false m e ≡ fin false n d
same_value f m e n d t u h =
    let l = 2 ^ low f in
    let c = n * up d * l / down d in
    let g : m * up e * l / down e ≡ c = div_same (m * up e * l) (down e) (n * up d * l) (down d) (down_pos e) (down_pos d) (mul_right_comm (m * up e) l (down d) ∙ ap (λ (x : ℕ). x * l) h ∙ mul_right_comm (n * up d) (down e) l) in
    sym (of_bits-to_bits f (fin false m e) t) ∙ ap (of_bits f) (bits_is f false m e c g ∙ sym (bits_is f false n d c refl)) ∙ of_bits-to_bits f (fin false n d) u

data Order (a b : ℕ) : Type 0 where
  less : a < b → Order a b
  same : a ≡ b → Order a b
  more : b < a → Order a b

order : (a b : ℕ) → Order a b
order a b = go (dec_le a b)
  where
    go : Dec (a ≤ b) → Order a b
    go (yes l) = elim (eq-or-lt_of_le l) [ inl e ↦ same e | inr h ↦ less h ]
    go (no f) = more (lt_of_not-le f)

-- another finite value lies below r or above it
aside : (f : Format) (r y : Float) → T (positive r) → T (fits f r) → T (fits f y) → T (finite y) → (y ≡ r → ⊥) → T (lt y r) ⊎ T (lt r y)
unfolding lt
aside f nan y p t u g n = absurd p
aside f (inf s) y p t u g n = absurd p
aside f (fin true m e) y p t u g n = absurd p
aside f (fin false m e) nan p t u g n = absurd g
aside f (fin false m e) (inf s) p t u g n = absurd g
aside f (fin false m e) (fin true i d) p t u g n = inl (lt→ltb 0 (i * up d * down e + m * up e * down d) (plus (i * up d * down e) (m * up e * down d) (mul-pos (mul-pos (ltb→lt 0 m p) (up_pos e)) (down_pos d))))
  where
    plus : (a b : ℕ) → 0 < b → 0 < a + b
    plus a b h = omega arith
aside f (fin false m e) (fin false i d) p t u g n = go (order (i * up d * down e) (m * up e * down d))
  where
    go : Order (i * up d * down e) (m * up e * down d) → T (lt (fin false i d) (fin false m e)) ⊎ T (lt (fin false m e) (fin false i d))
    go (less h) = inl (lt→ltb (i * up d * down e) (m * up e * down d) h)
    go (same h) = absurd (n (same_value f i d m e u t h))
    go (more h) = inr (lt→ltb (m * up e * down d) (i * up d * down e) h)

-- ---- what is nearer than every other value is equally near with none, and so is nearest
module _ (f : Format) (x r : Float) (w : Nearer f x r) where
  pub alone : (y : Float) → T (fits f y) → T (finite y) → (y ≡ r → ⊥) → Tie x r y → ⊥
  alone y h g n e = elim (aside f r y w.above_zero w.held h g n) [
    | inl l ↦ clash (sum_squared x r y) (four_times x r y) (w.from_below y h g l) e
    | inr l ↦ clash (four_times x r y) (sum_squared x r y) (w.from_above y h g l) (sym e)
  ]
    where
      clash : (a b : ℕ) → a < b → a ≡ b → ⊥
      clash a b l e = omega arith

  pub is_nearest : Nearest f x r
  is_nearest = record {
    held = w.held;
    above_zero = w.above_zero;
    from_below = λ y h g l. le_of_lt (w.from_below y h g l);
    from_above = λ y h g l. le_of_lt (w.from_above y h g l);
    ties_to-even = λ y h g n e. absurd (alone y h g n e);
  }

-- ---- two values that are nearest are one
-- t / c is z units, a unit being 1 / v: its square against n / d
module _ (t z c n d v : ℕ) (C : 0 < c) (e : t * v ≡ z * c) where
  left : t * t * d * (v * v) ≡ z * z * d * (c * c)
  left = squared t z c d v e ∙ ap (λ (y : ℕ). z * z * y) (mul_comm (c * c) d) ∙ sym (mul_assoc (z * z) d (c * c))

  at_least : 4 * n * (c * c) ≤ t * t * d → 4 * n * (v * v) ≤ z * z * d
  at_least h = le_of_mul-le-mul_right (le_trans (le_of_eq (mul_right_comm (4 * n) (v * v) (c * c))) (le_trans (mul-le-mul_right (v * v) h) (le_of_eq left))) (mul-pos C C)

  at_most : t * t * d ≤ 4 * n * (c * c) → z * z * d ≤ 4 * n * (v * v)
  at_most h = le_of_mul-le-mul_right (le_trans (le_of_eq (sym left)) (le_trans (mul-le-mul_right (v * v) h) (le_of_eq (mul_right_comm (4 * n) (c * c) (v * v))))) (mul-pos C C)

-- r below s: √x is their mean, both last digits are even, and the value next to r is nearer
module _ (f : Format) (x : Float) (m : ℕ) (e : ℤ) (n : ℕ) (d : ℤ) (p : Nearest f x (fin false m e)) (q : Nearest f x (fin false n d)) (h : m * up e * down d < n * up d * down e) where
  below_above : T (lt (fin false m e) (fin false n d))
  unfolding lt
  below_above = lt→ltb (m * up e * down d) (n * up d * down e) h

  abbrev r : Float
  r = fin false m e

  abbrev s : Float
  s = fin false n d

  differ : s ≡ r → ⊥
  differ g = lt_irrefl (m * up e * down e) (subst (λ (z : ℕ). m * up e * z < m * up e * down e) (ap den g) (subst (λ (z : ℕ). m * up e * down d < z * down e) (ap num g) h))

  sum_swap : sum_squared x r s ≡ sum_squared x s r
  sum_swap = ap (λ (z : ℕ). z * z * den x) (add_comm (m * up e * down d) (n * up d * down e))

  four_swap : four_times x r s ≡ four_times x s r
  four_swap = ap (λ (z : ℕ). 4 * num x * (z * z)) (mul_comm (down e) (down d))

  upper : sum_squared x s r ≤ four_times x s r
  upper = q.from_below r p.held tt below_above

  tie : Tie x s r
  tie = le_antisymm upper (le_trans (le_of_eq (sym four_swap)) (le_trans (p.from_above s q.held tt below_above) (le_of_eq sum_swap)))

  abbrev v : ℕ
  v = 2 ^ low f

  P : 0 < prec f
  P = two-le_pos (prec f) (two f)

  -- with a and b the numbers of units, and y a value of c units between them
  between : (a b c : ℕ) → m * up e * 2 ^ low f ≡ a * down e → n * up d * 2 ^ low f ≡ b * down d → a < c → c < b → (y : Float) → T (fits f y) → HasValue y false c (2 ^ low f) → ⊥
  between a b c ga gb l u nan t w = w
  between a b c ga gb l u (inf z) t w = w
  between a b c ga gb l u (fin true i g) t w = true≢false w.0
  between a b c ga gb l u (fin false i g) t w =
      let y = fin false i g in
      let lo : T (lt r y) = unfold lt in lt→ltb (m * up e * down g) (i * up g * down e) (lt_of_units (m * up e) (down e) (i * up g) (down g) v a c (down_pos e) (down_pos g) ga w.1 l) in
      let below = at_least (m * up e * down g + i * up g * down e) (a + c) (down e * down g) (num x) (den x) v (mul-pos (down_pos e) (down_pos g)) (sum_units (m * up e) (down e) (i * up g) (down g) v a c ga w.1) (p.from_above y t tt lo) in
      let above = at_most (n * up d * down e + m * up e * down d) (b + a) (down d * down e) (num x) (den x) v (mul-pos (down_pos d) (down_pos e)) (sum_units (n * up d) (down d) (m * up e) (down e) v b a gb ga) upper in
      not-le_of_lt (squares-lt (more a b c u)) (le_of_mul-le-mul_right (le_trans above below) (den_pos x))
    where
      more : (a b c : ℕ) → c < b → a + c < b + a
      more a b c u = omega arith

  pub none_below : ⊥
  none_below =
      let z = on_grid f false m e p.held in
      let w = on_grid f false n d q.held in
      let a = z.0 * 2 ^ z.1 in
      let b = w.0 * 2 ^ w.1 in
      let l : a < b = units_lt (m * up e) (down e) (n * up d) (down d) v a b (pow_pos (low f)) z.3 w.3 h in
      let k = drops (prec f) a in
      let i = suc (keeps (prec f) a) in
      let u : i * 2 ^ k < b =
      next_below (prec f) z.0 z.1 w.0 w.1 P z.2 w.2 l
      (last_even f m e a z.3 (p.ties_to-even s q.held tt differ (sum_swap ∙ tie ∙ sym four_swap)))
      (last_even f n d b w.3 (q.ties_to-even r p.held tt (λ g. differ (sym g)) tie)) in
      between a b (i * 2 ^ k) z.3 w.3 (next-above (prec f) z.0 z.1 w.0 w.1 P z.2 w.2 l) u (odd (suc (prec f)) false i k (low f))
      (odd-fits f (suc (prec f)) false i k (lt_of_le_of_lt (kept-lt (prec f) a) (pow-lt (le_refl (suc (prec f))))) (kept-lt (prec f) a) (lt_of_le_of_lt (le_of_lt u) (below_end f false n d b q.held w.3)))
      (odd_sign (suc (prec f)) false i k (low f))

pub nearest_unique : (f : Format) (x r s : Float) → Nearest f x r → Nearest f x s → r ≡ s
nearest_unique f x nan s p q = absurd p.above_zero
nearest_unique f x (inf b) s p q = absurd p.above_zero
nearest_unique f x (fin true m e) s p q = absurd p.above_zero
nearest_unique f x (fin false m e) nan p q = absurd q.above_zero
nearest_unique f x (fin false m e) (inf b) p q = absurd q.above_zero
nearest_unique f x (fin false m e) (fin true n d) p q = absurd q.above_zero
nearest_unique f x (fin false m e) (fin false n d) p q = go (order (m * up e * down d) (n * up d * down e))
  where
    go : Order (m * up e * down d) (n * up d * down e) → fin false m e ≡ fin false n d
    go (less h) = absurd (none_below f x m e n d p q h)
    go (same h) = same_value f m e n d p.held q.held h
    go (more h) = absurd (none_below f x n d m e q p h)
