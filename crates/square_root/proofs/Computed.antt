-- `sqrt_of`, which computes, gives the `IsSquareRoot` of what it is given, a value has one only, and no other value is equally near. Assumes nothing.
use Rattle.std.proofs.Common.{◌≡◌, ℕ, zero, suc, ◌+◌, ◌-◌, ◌*◌, ◌/◌, ◌^◌, ◌<◌, ◌≤◌, Bool, true, false, cond, not, T, eqb, ltb, leb, ℤ, sym, refl, ap, ◌∙◌, subst, inl, inr, zero-le, le_trans, le_of_eq, le_refl, lt_of_lt_of_le, lt_of_le_of_lt, le_of_lt, mul-le-mul_right, zero-lt-suc, mul_assoc, lt-suc_self, suc-mul, mul_comm, div-lt_iff_lt-mul, eq-zero-or-pos, mul-le-mul_left, mul-lt-mul_of_pos_right, mul-pos, one-mul, pow-suc, lt_of_not-le, le-div_iff_mul-le, mul-one, mul_right_comm, not-le_of_lt, div-mul-le_self, mul-div_cancel, arith, eqb→eq, lt→ltb, leb→le, pow_pos, pow_mono, pow-add}
use Prim.Native.Nat.{compare, Ordering}
use native.Mathlib.Nat.{mul-mul-mul_comm, pow-succ'}
use native.Mathlib.Decide.{dec_le}
use lib.Dec.{nleb→lt, is_le, compare_is_eq, eqb_refl}
use lib.Arith.{lt_of_le-ne}
use lib.Pow.{pow-lt}
use lib.Ieee.{Float, nan, inf, fin, Format, binary32, binary64, prec, emax, low, up, down, size, nearest, odd, units, fits}
use lib.Ieee.Digits.{size-lt, back}
use lib.Ieee.Fits.{two, two-le_pos, kept-lt, nearest-le, odd-fits, down_pos, up_pos}
use lib.Ieee.Exact.{HasValue, units_val}
use lib.Ieee.Bits.{is_true}
use lib.Ieee.Scale.{finite}
use lib.Ieee.Positive.{positive, first_pos}
use Rattle.square_root.specs.SquareRoot.{IsSquareRoot, Tie}
use Rattle.square_root.specs.Steps.{Root}
use Rattle.square_root.specs.Computed.{last_digit, whole_root, round_root, sqrt_of}
use Rattle.square_root.proofs.Karatsuba.{square, squares, squares-lt}
use Rattle.square_root.proofs.Gap.{Nearby}
use Rattle.square_root.proofs.Values.{Nearer, on_grid, nearer}
use Rattle.square_root.proofs.Ties.{drops, keeps, half, reaches, lead, below_end, alone, is_nearest, nearest_unique}

-- ---- the whole part of a root
last_digit_lem : (n s : ℕ) → Root (n / 4) s → Root n (last_digit n (2 * s))
last_digit_lem n s w = go (leb ((2 * s + 1) * (2 * s + 1)) n) (leb→le ((2 * s + 1) * (2 * s + 1)) n) (nleb→lt ((2 * s + 1) * (2 * s + 1)) n)
  where
    low : 2 * s * (2 * s) ≤ n
    low = let h = w.low in let e = mul-mul-mul_comm 2 s 2 s in go (s * s) h e
      where
        go : (a : ℕ) → a ≤ n / 4 → 2 * s * (2 * s) ≡ 2 * 2 * a → 2 * s * (2 * s) ≤ n
        go a h e = omega arith

    high : n < (2 * s + 1 + 1) * (2 * s + 1 + 1)
    high = let h = w.high in let e : (2 * s + 1 + 1) * (2 * s + 1 + 1) ≡ 2 * 2 * ((s + 1) * (s + 1)) = ap (λ (x : ℕ). x * x) (two_of s) ∙ mul-mul-mul_comm 2 (s + 1) 2 (s + 1) in go ((s + 1) * (s + 1)) h e
      where
        two_of : (s : ℕ) → 2 * s + 1 + 1 ≡ 2 * (s + 1)
        two_of s = omega arith

        go : (a : ℕ) → n / 4 < a → (2 * s + 1 + 1) * (2 * s + 1 + 1) ≡ 2 * 2 * a → n < (2 * s + 1 + 1) * (2 * s + 1 + 1)
        go a h e = omega arith

    go : (b : Bool) → (T b → (2 * s + 1) * (2 * s + 1) ≤ n) → (T (not b) → n < (2 * s + 1) * (2 * s + 1)) → Root n (cond b (2 * s + 1) (2 * s))
    go true l h = record { low = l tt; high = high }
    go false l h = record { low = low; high = h tt }

pub whole_root_lem : (d n : ℕ) → n < 4 ^ d → Root n (whole_root d n)
unfolding whole_root
whole_root_lem zero n h = record { low = zero-le; high = h }
whole_root_lem (suc d) n h = last_digit_lem n (whole_root d (n / 4)) (whole_root_lem d (n / 4) ((div-lt_iff_lt-mul (zero-lt-suc 3)).1 (subst (λ (x : ℕ). n < x) (pow-suc 4 d) h)))

two-four : (d : ℕ) → 2 ^ d ≤ 4 ^ d
two-four zero = le_refl 1
two-four (suc d) = le_trans (le_of_eq (pow-suc 2 d)) (le_trans (grow (2 ^ d) (4 ^ d) (two-four d)) (le_of_eq (sym (pow-suc 4 d))))
  where
    grow : (a b : ℕ) → a ≤ b → a * 2 ≤ b * 4
    grow a b h = omega arith

-- ---- what `compare` says
abbrev Cmp : Ordering → ℕ → ℕ → Type 0
Cmp Ordering.lt a b = a < b
Cmp Ordering.eq a b = a ≡ b
Cmp Ordering.gt a b = b < a

cmp : (a b : ℕ) → Cmp (compare a b) a b
cmp a b = go (compare a b) (leb→le a b) (nleb→lt a b) (eqb→eq a b) (λ (e : a ≡ b). subst (λ (x : ℕ). T (eqb a x)) e (eqb_refl a))
  where
    go : (o : Ordering) → (T (is_le o) → a ≤ b) → (T (not (is_le o)) → b < a) → (T (compare_is_eq o) → a ≡ b) → (a ≡ b → T (compare_is_eq o)) → Cmp o a b
    go Ordering.lt h k e n = lt_of_le-ne (h tt) n
    go Ordering.eq h k e n = e tt
    go Ordering.gt h k e n = k tt

-- ---- w is the whole part of the root of n, in a format of p digits
abbrev mean : (p w : ℕ) → ℕ
mean p w = (2 * (w / 2 ^ (size w - p)) + 1) * 2 ^ (size w - p)

module _ (p n w : ℕ) (P : 0 < p) (N : 0 < n) (root : Root n w) where
  abbrev k : ℕ
  k = size w - p

  abbrev q : ℕ
  q = w / 2 ^ k

  abbrev mid : ℕ
  mid = (2 * q + 1) * 2 ^ k

  w_pos : 0 < w
  w_pos = elim (eq-zero-or-pos w) [ inl z ↦ absurd (not-le_of_lt (lt_of_lt_of_le root.high (le_of_eq (ap (λ (x : ℕ). (x + 1) * (x + 1)) z))) N) | inr h ↦ h ]

  q_pos : 0 < q
  q_pos = elim (eq-zero-or-pos k) [ inl z ↦ subst (λ (x : ℕ). 0 < w / 2 ^ x) (sym z) ((le-div_iff_mul-le (pow_pos 0)).1 w_pos) | inr h ↦ lt_of_lt_of_le (pow_pos (p - 1)) (lead p w P h) ]

  digits : 0 < k → 2 ^ (p - 1) * 2 ^ k * (2 ^ (p - 1) * 2 ^ k) ≤ n
  digits h = le_trans (squares (reaches p w P h)) root.low

  floor : q * 2 ^ k ≤ w
  floor = div-mul-le_self w (2 ^ k)

  ceiling : w + 1 ≤ q * 2 ^ k + 2 ^ k
  ceiling = let h = (div-lt_iff_lt-mul (pow_pos k)).0 (lt-suc_self q) in let e = suc-mul q (2 ^ k) in go (suc q * 2 ^ k) (q * 2 ^ k + 2 ^ k) h e
    where
      go : (a b : ℕ) → w < a → a ≡ b → w + 1 ≤ b
      go a b h e = omega arith

  -- four times n lies between the squares of 2 * q * 2 ^ k and 2 * (q + 1) * 2 ^ k
  above_floor : 2 * (q * 2 ^ k) * (2 * (q * 2 ^ k)) ≤ 4 * n
  above_floor = le_trans (le_of_eq (mul-mul-mul_comm 2 (q * 2 ^ k) 2 (q * 2 ^ k))) (mul-le-mul_left 4 (le_trans (squares floor) root.low))

  below_ceiling : 4 * n < 2 * (q * 2 ^ k + 2 ^ k) * (2 * (q * 2 ^ k + 2 ^ k))
  below_ceiling =
      lt_of_lt_of_le (four n ((w + 1) * (w + 1)) root.high)
      (le_trans (mul-le-mul_left 4 (squares ceiling)) (le_of_eq (sym (mul-mul-mul_comm 2 (q * 2 ^ k + 2 ^ k) 2 (q * 2 ^ k + 2 ^ k)))))
    where
      four : (a b : ℕ) → a < b → 4 * a < 4 * b
      four a b h = omega arith

  one_down : (r c : ℕ) → 0 < r → (2 * r - 1) * c + c ≡ 2 * (r * c)
  one_down r c h = sym (suc-mul (2 * r - 1) c) ∙ ap (λ (x : ℕ). x * c) (same r h) ∙ mul_assoc 2 r c
    where
      same : (r : ℕ) → 0 < r → suc (2 * r - 1) ≡ 2 * r
      same r h = omega arith

  one_up : (r c : ℕ) → (2 * r + 1) * c ≡ 2 * (r * c) + c
  one_up r c = ap (λ (x : ℕ). x * c) (same r) ∙ suc-mul (2 * r) c ∙ ap (λ (x : ℕ). x + c) (mul_assoc 2 r c)
    where
      same : (r : ℕ) → 2 * r + 1 ≡ suc (2 * r)
      same r = omega arith

  -- rounded by how 4 * n compares with the square of twice the mean, where the two are not equal
  pub rounds : (4 * n ≡ mid * mid → ⊥) → Nearby (p - 1) n k (nearest q (compare (4 * n) (mid * mid)))
  rounds no_tie = go (compare (4 * n) (mid * mid)) (cmp (4 * n) (mid * mid))
    where
      under : (a c d : ℕ) → d + c ≡ 2 * a → 0 < c → d < 2 * a
      under a c d e h = omega arith

      past : (a c : ℕ) → 2 * (a + c) ≤ 2 * (a + c) + c
      past a c = omega arith

      pred : (q : ℕ) → 2 * suc q - 1 ≡ 2 * q + 1
      pred q = omega arith

      go : (o : Ordering) → Cmp o (4 * n) (mid * mid) → Nearby (p - 1) n k (nearest q o)
      go Ordering.lt h = record {
        some = q_pos;
        lead = lead p w P;
        digits = digits;
        low = lt_of_lt_of_le (squares-lt (under (q * 2 ^ k) (2 ^ k) ((2 * q - 1) * 2 ^ k) (one_down q (2 ^ k) q_pos) (pow_pos k))) above_floor;
        high = h;
      }
      go Ordering.eq h = absurd (no_tie h)
      go Ordering.gt h = record {
        some = zero-lt-suc q;
        lead = λ g. le_trans (lead p w P g) (le_of_lt (lt-suc_self q));
        digits = digits;
        low = subst (λ (x : ℕ). x * 2 ^ k * (x * 2 ^ k) < 4 * n) (sym (pred q)) h;
        high = lt_of_lt_of_le below_ceiling (squares (le_trans (past (q * 2 ^ k) (2 ^ k)) (le_of_eq (ap (λ (x : ℕ). 2 * x + 2 ^ k) (sym (suc-mul q (2 ^ k))) ∙ sym (one_up (suc q) (2 ^ k))))));
      }

  -- the result is at most twice w, which is far below the format's end
  pub small : (e : ℕ) → w < 2 ^ e → (o : Ordering) → nearest q o * 2 ^ k < 2 ^ suc e
  small e h o =
      lt_of_le_of_lt (mul-le-mul_right (2 ^ k) (nearest-le q o))
      (lt_of_le_of_lt (le_trans (le_of_eq (suc-mul q (2 ^ k))) (twice (q * 2 ^ k) (2 ^ k) w floor dropped)) (subst (λ (x : ℕ). w + w < x) (sym (pow-succ' 2 e)) (dbl w (2 ^ e) h)))
    where
      twice : (a c w : ℕ) → a ≤ w → c ≤ w → a + c ≤ w + w
      twice a c w h l = omega arith

      dbl : (a b : ℕ) → a < b → a + a < 2 * b
      dbl a b h = omega arith

      dropped : 2 ^ k ≤ w
      dropped = le_trans (le_trans (le_of_eq (sym (one-mul (2 ^ k)))) (mul-le-mul_right (2 ^ k) q_pos)) floor

-- ---- no tie: an odd number is not m * 2 ^ a / 2 ^ b for an m below it
odd_power : (o m a b : ℕ) → (t : ℕ) × (o ≡ 2 * t + 1) → m * 2 ^ a ≡ o * 2 ^ b → (a ≤ b → m < o) → ⊥
odd_power o m a b t e h = go (dec_le a b)
  where
    shift : (x y c d : ℕ) → c ≤ d → x * 2 ^ c ≡ y * 2 ^ d → x ≡ y * 2 ^ (d - c)
    shift x y c d l g = cancel x (y * 2 ^ (d - c)) (2 ^ c) (pow_pos c) (g ∙ ap (λ (z : ℕ). y * z) (ap (λ (z : ℕ). 2 ^ z) (sym (back d c l)) ∙ pow-add 2 (d - c) c) ∙ sym (mul_assoc y (2 ^ (d - c)) (2 ^ c)))
      where
        cancel : (x y c : ℕ) → 0 < c → x * c ≡ y * c → x ≡ y
        cancel x y c C g = sym (mul-div_cancel x C) ∙ ap (λ (z : ℕ). z / c) g ∙ mul-div_cancel y C

    parity : (x y : ℕ) → x ≡ 2 * y → x ≡ 2 * t.0 + 1 → ⊥
    parity x y f g = omega arith

    pred : (d : ℕ) → 0 < d → d ≡ suc (d - 1)
    pred d g = omega arith

    gap : (x y : ℕ) → x < y → 0 < y - x
    gap x y l = omega arith

    go : Dec (a ≤ b) → ⊥
    go (yes l) = not-le_of_lt (h l) (le_trans (le_of_eq (sym (mul-one o))) (le_trans (mul-le-mul_left o (pow_pos (b - a))) (le_of_eq (sym (shift m o a b l e)))))
    go (no f) =
        let l : b < a = lt_of_not-le f in
        let d = a - b in
        parity o (m * 2 ^ (d - 1)) (shift o m b a (le_of_lt l) (sym e) ∙ ap (λ (z : ℕ). m * 2 ^ z) (pred d (gap b a l)) ∙ ap (λ (z : ℕ). m * z) (pow-succ' 2 (d - 1)) ∙ left m (2 ^ (d - 1))) t.1
      where
        left : (m c : ℕ) → m * (2 * c) ≡ 2 * (m * c)
        left m c = sym (mul_assoc m 2 c) ∙ ap (λ (z : ℕ). z * c) (mul_comm m 2) ∙ mul_assoc 2 m c

-- ---- `round_root`
-- from the whole part w of the root on
abbrev core : Format → ℕ → ℕ → Float
core f n w = units f false (nearest (keeps (prec f) w) (compare (4 * n) (mean (prec f) w * mean (prec f) w))) (drops (prec f) w)

round_is : (f : Format) (n : ℕ) → round_root f n ≡ core f n (whole_root (size n) n)
unfolding round_root
round_is f n = refl

units_odd : (f : Format) (s : Bool) (q k : ℕ) → q * 2 ^ k < 2 ^ (low f + suc (emax f)) → units f s q k ≡ odd (suc (prec f)) s q k (low f)
unfolding units
units_odd f s q k h = ap (λ (b : Bool). cond b (odd (suc (prec f)) s q k (low f)) (inf s)) (is_true (ltb (q * 2 ^ k) (2 ^ (low f + suc (emax f)))) (lt→ltb (q * 2 ^ k) (2 ^ (low f + suc (emax f))) h))

-- x is m * 2 ^ j units, with m of no more digits than the format keeps: n is the square of its root, in units
module _ (f : Format) (x : Float) (m j w : ℕ) (vx : HasValue x false (m * 2 ^ j) (2 ^ low f)) (some : 0 < m * 2 ^ j) (few : m < 2 ^ prec f) (bound : m * 2 ^ j < 2 ^ (low f + suc (emax f))) (root : Root (m * 2 ^ j * 2 ^ low f) w) where
  n : ℕ
  n = m * 2 ^ j * 2 ^ low f

  P : 0 < prec f
  P = two-le_pos (prec f) (two f)

  N : 0 < m * 2 ^ j * 2 ^ low f
  N = mul-pos some (pow_pos (low f))

  no_tie : 4 * (m * 2 ^ j * 2 ^ low f) ≡ mean (prec f) w * mean (prec f) w → ⊥
  no_tie e =
      let k = drops (prec f) w in
      let q = keeps (prec f) w in
      let o = (2 * q + 1) * (2 * q + 1) in
      odd_power o m (j + low f + 2) (k + k) (odd_square q)
      (ap (λ (z : ℕ). m * z) (pow-add 2 (j + low f) 2 ∙ ap (λ (z : ℕ). z * 4) (pow-add 2 j (low f)))
      ∙ sym (mul_assoc m (2 ^ j * 2 ^ low f) 4)
      ∙ mul_comm (m * (2 ^ j * 2 ^ low f)) 4
      ∙ ap (λ (z : ℕ). 4 * z) (sym (mul_assoc m (2 ^ j) (2 ^ low f)))
      ∙ e
      ∙ mul-mul-mul_comm (2 * q + 1) (2 ^ k) (2 * q + 1) (2 ^ k)
      ∙ ap (λ (z : ℕ). o * z) (sym (pow-add 2 k k)))
      (λ h. large q (positive (j + low f) k h))
    where
      odd_square : (q : ℕ) → (t : ℕ) × ((2 * q + 1) * (2 * q + 1) ≡ 2 * t + 1)
      odd_square q = (q * (2 * q) + 2 * q, square (2 * q) 1 ∙ go (q * (2 * q)) (2 * q * (2 * q)) (mul_assoc 2 q (2 * q)))
        where
          go : (a b : ℕ) → b ≡ 2 * a → b + 2 * (2 * q * 1) + 1 ≡ 2 * (a + 2 * q) + 1
          go a b g = omega arith

      positive : (a k : ℕ) → a + 2 ≤ k + k → 0 < k
      positive a k h = omega arith

      large : (q : ℕ) → 0 < drops (prec f) w → m < (2 * keeps (prec f) w + 1) * (2 * keeps (prec f) w + 1)
      large q h =
          let g = lead (prec f) w P h in
          let c = keeps (prec f) w in
          lt_of_lt_of_le few (le_trans (wide (2 ^ prec f) (2 ^ (prec f - 1)) c (half (prec f) P) g) (le_trans (le_of_eq (sym (one-mul (2 * c + 1)))) (mul-le-mul_right (2 * c + 1) (one c))))
        where
          wide : (a b c : ℕ) → a ≡ 2 * b → b ≤ c → a ≤ 2 * c + 1
          wide a b c e h = omega arith

          one : (c : ℕ) → 1 ≤ 2 * c + 1
          one c = omega arith

  abbrev result : ℕ
  result = nearest (keeps (prec f) w) (compare (4 * (m * 2 ^ j * 2 ^ low f)) (mean (prec f) w * mean (prec f) w))

  -- the root is far below the format's end
  root_lt : w < 2 ^ (low f + emax f)
  root_lt = lt_of_not-le (λ (g : 2 ^ (low f + emax f) ≤ w). not-le_of_lt (lt_of_le_of_lt root.low (mul-lt-mul_of_pos_right bound (pow_pos (low f)))) (le_trans ends (squares g)))
    where
      most : (l e : ℕ) → 1 ≤ e → l + suc e + l ≤ l + e + (l + e)
      most l e h = omega arith

      one : (f : Format) → 1 ≤ emax f
      one binary32 = zero-lt-suc 126
      one binary64 = zero-lt-suc 1022

      ends : 2 ^ (low f + suc (emax f)) * 2 ^ low f ≤ 2 ^ (low f + emax f) * 2 ^ (low f + emax f)
      ends = le_trans (le_of_eq (sym (pow-add 2 (low f + suc (emax f)) (low f)))) (le_trans (pow_mono (most (low f) (emax f) (one f))) (le_of_eq (pow-add 2 (low f + emax f) (low f + emax f))))

  in_range : result * 2 ^ drops (prec f) w < 2 ^ (low f + suc (emax f))
  in_range = subst (λ (e : ℕ). result * 2 ^ drops (prec f) w < 2 ^ e) (up_one (low f) (emax f)) (small (prec f) (m * 2 ^ j * 2 ^ low f) w P N root (low f + emax f) root_lt (compare (4 * (m * 2 ^ j * 2 ^ low f)) (mean (prec f) w * mean (prec f) w)))
    where
      up_one : (l e : ℕ) → suc (l + e) ≡ l + suc e
      up_one l e = omega arith

  result-le : result ≤ 2 ^ prec f
  result-le = le_trans (nearest-le (keeps (prec f) w) (compare (4 * (m * 2 ^ j * 2 ^ low f)) (mean (prec f) w * mean (prec f) w))) (kept-lt (prec f) w)

  core_fits : T (fits f (core f (m * 2 ^ j * 2 ^ low f) w))
  core_fits =
      subst (λ (y : Float). T (fits f y)) (sym (units_odd f false result (drops (prec f) w) in_range))
      (odd-fits f (suc (prec f)) false result (drops (prec f) w) (lt_of_le_of_lt result-le (pow-lt (le_refl (suc (prec f))))) result-le in_range)

  core_nearer : Nearer f x (core f (m * 2 ^ j * 2 ^ low f) w)
  core_nearer =
      nearer f x (core f (m * 2 ^ j * 2 ^ low f) w) (m * 2 ^ j) (drops (prec f) w) result vx (units_val f false result (drops (prec f) w) in_range)
      (rounds (prec f) (m * 2 ^ j * 2 ^ low f) w P N root no_tie) core_fits

-- ---- `sqrt_of` is a square root
pub positive_root : (f : Format) (m : ℕ) (e : ℤ) → T (fits f (fin false (suc m) e)) → Nearer f (fin false (suc m) e) (round_root f (suc m * up e * 2 ^ (low f + low f) / down e))
positive_root f m e t =
    let z = on_grid f false (suc m) e t in
    let l = 2 ^ low f in
    let x = z.0 * 2 ^ z.1 in
    let n = x * l in
    let is : suc m * up e * 2 ^ (low f + low f) / down e ≡ n =
    ap (λ (y : ℕ). y / down e) (ap (λ (y : ℕ). suc m * up e * y) (pow-add 2 (low f) (low f)) ∙ sym (mul_assoc (suc m * up e) l l) ∙ ap (λ (y : ℕ). y * l) z.3 ∙ mul_right_comm x (down e) l) ∙ mul-div_cancel n (down_pos e) in
    let some : 0 < x = first_pos x (down e) (subst (λ (y : ℕ). 0 < y) z.3 (mul-pos (mul-pos (zero-lt-suc m) (up_pos e)) (pow_pos (low f)))) in
    let bound = below_end f false (suc m) e x t z.3 in
    let root = whole_root_lem (size n) n (lt_of_lt_of_le (size-lt n) (two-four (size n))) in
    subst (λ (y : ℕ). Nearer f (fin false (suc m) e) (round_root f y)) (sym is)
    (subst (λ (y : Float). Nearer f (fin false (suc m) e) y) (sym (round_is f n))
    (core_nearer f (fin false (suc m) e) z.0 z.1 (whole_root (size n) n) (refl, z.3) some z.2 bound root))

pub sqrt_of_is : (f : Format) (x : Float) → T (fits f x) → IsSquareRoot f x (sqrt_of f x)
unfolding IsSquareRoot sqrt_of
sqrt_of_is f nan t = refl
sqrt_of_is f (inf true) t = refl
sqrt_of_is f (inf false) t = refl
sqrt_of_is f (fin true zero e) t = refl
sqrt_of_is f (fin true (suc m) e) t = refl
sqrt_of_is f (fin false zero e) t = refl
sqrt_of_is f (fin false (suc m) e) t = is_nearest f (fin false (suc m) e) (round_root f (suc m * up e * 2 ^ (low f + low f) / down e)) (positive_root f m e t)

-- ---- and there is one only
pub unique : (f : Format) (x r s : Float) → IsSquareRoot f x r → IsSquareRoot f x s → r ≡ s
unfolding IsSquareRoot
unique f nan r s p q = p ∙ sym q
unique f (inf true) r s p q = p ∙ sym q
unique f (inf false) r s p q = p ∙ sym q
unique f (fin true zero e) r s p q = p ∙ sym q
unique f (fin true (suc m) e) r s p q = p ∙ sym q
unique f (fin false zero e) r s p q = p ∙ sym q
unique f (fin false (suc m) e) r s p q = nearest_unique f (fin false (suc m) e) r s p q

-- and of an x of the format no other value is equally near to its root
pub untied : (f : Format) (x r y : Float) → T (fits f x) → T (positive x) → IsSquareRoot f x r → T (fits f y) → T (finite y) → (y ≡ r → ⊥) → Tie x r y → ⊥
unfolding IsSquareRoot
untied f nan r y t p w = absurd p
untied f (inf s) r y t p w = absurd p
untied f (fin true m e) r y t p w = absurd p
untied f (fin false zero e) r y t p w = absurd p
untied f (fin false (suc m) e) r y t p w =
    let x = fin false (suc m) e in
    let n = suc m * up e * 2 ^ (low f + low f) / down e in
    let near = positive_root f m e t in
    alone f x r (subst (λ (z : Float). Nearer f x z) (nearest_unique f x (round_root f n) r (is_nearest f x (round_root f n) near) w) near) y
