-- Numbers with at most p + 1 digits before their closing zeros, q * 2 ^ j with q < 2 ^ (p + 1): next to a = r * 2 ^ k, where r has p + 1 digits, there is none nearer than 2 ^ k above it,
-- and none nearer below it but where r is 2 ^ p. So if the root of n, rounded to a multiple of 2 ^ k, is a, then a is nearer to the root than every other such number. Assumes nothing.
use Rattle.std.proofs.Common.{◌≡◌, ℕ, suc, ◌+◌, ◌-◌, ◌*◌, ◌^◌, ◌<◌, ◌≤◌, ◌⊎◌, sym, ap, ◌∙◌, subst, inl, inr, zero-le, le_trans, le_of_eq, lt_of_lt_of_le, lt_of_le_of_lt, le_of_lt, mul-le-mul_right, mul_assoc, suc-mul, lt_of_mul-lt-mul_right, eq-or-lt_of_le, lt_of_not-le, not-le_of_lt, arith, pow_mono, pow-add, shl_lt}
use native.Mathlib.Nat.{mul-mul-mul_comm}
use native.Mathlib.Decide.{dec_le}
use lib.Ieee.Digits.{back}
use Rattle.square_root.proofs.Karatsuba.{squares, squares-lt}

-- q * 2 ^ j is a multiple of 2 ^ k, or it has too few digits to reach p + k + 1 of them
pub place : (p q j k : ℕ) → q < 2 ^ suc p → ((t : ℕ) × (q * 2 ^ j ≡ t * 2 ^ k)) ⊎ ((0 < k) × (q * 2 ^ j < 2 ^ p * 2 ^ k))
place p q j k h = go (dec_le k j)
  where
    room : (p j k : ℕ) → j < k → suc p + j ≤ p + k
    room p j k l = omega arith

    go : Dec (k ≤ j) → ((t : ℕ) × (q * 2 ^ j ≡ t * 2 ^ k)) ⊎ ((0 < k) × (q * 2 ^ j < 2 ^ p * 2 ^ k))
    go (yes l) = inl (q * 2 ^ (j - k), sym (mul_assoc q (2 ^ (j - k)) (2 ^ k) ∙ ap (λ (x : ℕ). q * x) (sym (pow-add 2 (j - k) k) ∙ ap (λ (x : ℕ). 2 ^ x) (back j k l))))
    go (no f) =
        let l : j < k = lt_of_not-le f in
        inr (lt_of_le_of_lt zero-le l, lt_of_lt_of_le (shl_lt (suc p) j h) (le_trans (pow_mono (room p j k l)) (le_of_eq (pow-add 2 p k))))

step : (a t w : ℕ) → a * w < t * w → a * w + w ≤ t * w
step a t w h = le_trans (le_of_eq (sym (suc-mul a w))) (mul-le-mul_right w (lt_of_mul-lt-mul_right w h))

-- r * 2 ^ k is the root of n rounded to a multiple of 2 ^ k, and r has p + 1 digits or k is 0
pub record Nearby (p n k r : ℕ) : Type 0 where
  pub some : 0 < r
  pub lead : 0 < k → 2 ^ p ≤ r
  pub digits : 0 < k → 2 ^ p * 2 ^ k * (2 ^ p * 2 ^ k) ≤ n
  pub low : (2 * r - 1) * 2 ^ k * ((2 * r - 1) * 2 ^ k) < 4 * n
  pub high : 4 * n < (2 * r + 1) * 2 ^ k * ((2 * r + 1) * 2 ^ k)

-- above r * 2 ^ k, where r has p + 1 digits or k is 0
pub gap_up : (p k r q j : ℕ) → (0 < k → 2 ^ p ≤ r) → q < 2 ^ suc p → r * 2 ^ k < q * 2 ^ j → r * 2 ^ k + 2 ^ k ≤ q * 2 ^ j
gap_up p k r q j lead small h = go (place p q j k small)
  where
    go : ((t : ℕ) × (q * 2 ^ j ≡ t * 2 ^ k)) ⊎ ((0 < k) × (q * 2 ^ j < 2 ^ p * 2 ^ k)) → r * 2 ^ k + 2 ^ k ≤ q * 2 ^ j
    go (inl z) = subst (λ (x : ℕ). r * 2 ^ k + 2 ^ k ≤ x) (sym z.1) (step r z.0 (2 ^ k) (subst (λ (x : ℕ). r * 2 ^ k < x) z.1 h))
    go (inr z) = absurd (not-le_of_lt (lt_of_lt_of_le z.1 (mul-le-mul_right (2 ^ k) (lead z.0))) (le_of_lt h))

module _ (p n k r : ℕ) (w : Nearby p n k r) (q j : ℕ) (small : q < 2 ^ suc p) where
  -- one step down, or the root itself is at least r * 2 ^ k
  gap_down : q * 2 ^ j < r * 2 ^ k → (q * 2 ^ j + 2 ^ k ≤ r * 2 ^ k) ⊎ (r * 2 ^ k * (r * 2 ^ k) ≤ n)
  gap_down h = go (place p q j k small)
    where
      go : ((t : ℕ) × (q * 2 ^ j ≡ t * 2 ^ k)) ⊎ ((0 < k) × (q * 2 ^ j < 2 ^ p * 2 ^ k)) → (q * 2 ^ j + 2 ^ k ≤ r * 2 ^ k) ⊎ (r * 2 ^ k * (r * 2 ^ k) ≤ n)
      go (inl z) = inl (subst (λ (x : ℕ). x + 2 ^ k ≤ r * 2 ^ k) (sym z.1) (step z.0 r (2 ^ k) (subst (λ (x : ℕ). x < r * 2 ^ k) z.1 h)))
      go (inr z) = elim (eq-or-lt_of_le (w.lead z.0)) [
        | inl e ↦ inr (subst (λ (x : ℕ). x * 2 ^ k * (x * 2 ^ k) ≤ n) e (w.digits z.0))
        | inr l ↦ inl (le_trans (add-le (q * 2 ^ j) (2 ^ p * 2 ^ k) (2 ^ k) z.1) (le_trans (le_of_eq (sym (suc-mul (2 ^ p) (2 ^ k)))) (mul-le-mul_right (2 ^ k) l)))
      ]
        where
          add-le : (a b c : ℕ) → a < b → a + c ≤ b + c
          add-le a b c h = omega arith

  wide_up : (2 * r + 1) * 2 ^ k ≡ r * 2 ^ k + r * 2 ^ k + 2 ^ k
  wide_up = ap (λ (x : ℕ). x * 2 ^ k) (one r) ∙ suc-mul (2 * r) (2 ^ k) ∙ ap (λ (x : ℕ). x + 2 ^ k) (mul_assoc 2 r (2 ^ k) ∙ dbl (r * 2 ^ k))
    where
      one : (r : ℕ) → 2 * r + 1 ≡ suc (2 * r)
      one r = omega arith

      dbl : (x : ℕ) → 2 * x ≡ x + x
      dbl x = omega arith

  wide_down : (2 * r - 1) * 2 ^ k + 2 ^ k ≡ r * 2 ^ k + r * 2 ^ k
  wide_down = sym (suc-mul (2 * r - 1) (2 ^ k)) ∙ ap (λ (x : ℕ). x * 2 ^ k) (one r w.some) ∙ mul_assoc 2 r (2 ^ k) ∙ dbl (r * 2 ^ k)
    where
      one : (r : ℕ) → 0 < r → suc (2 * r - 1) ≡ 2 * r
      one r h = omega arith

      dbl : (x : ℕ) → 2 * x ≡ x + x
      dbl x = omega arith

  -- the root of n lies on r * 2 ^ k's side of the mean of the two
  pub mean-above : r * 2 ^ k < q * 2 ^ j → 4 * n < (r * 2 ^ k + q * 2 ^ j) * (r * 2 ^ k + q * 2 ^ j)
  mean-above h = lt_of_lt_of_le w.high (squares (le_trans (le_of_eq wide_up) (far (r * 2 ^ k) (2 ^ k) (q * 2 ^ j) (gap_up p k r q j w.lead small h))))
    where
      far : (a c y : ℕ) → a + c ≤ y → a + a + c ≤ a + y
      far a c y h = omega arith

  pub mean_below : q * 2 ^ j < r * 2 ^ k → (r * 2 ^ k + q * 2 ^ j) * (r * 2 ^ k + q * 2 ^ j) < 4 * n
  mean_below h = elim (gap_down h) [
    | inl g ↦ lt_of_le_of_lt (squares (far (r * 2 ^ k) (2 ^ k) (q * 2 ^ j) ((2 * r - 1) * 2 ^ k) wide_down g)) w.low
    | inr g ↦ let a = r * 2 ^ k in lt_of_lt_of_le (squares-lt (under a (q * 2 ^ j) h)) (le_trans (le_of_eq (mul-mul-mul_comm 2 a 2 a)) (four (a * a) n g))
  ]
    where
      far : (a c y z : ℕ) → z + c ≡ a + a → y + c ≤ a → a + y ≤ z
      far a c y z e h = omega arith

      under : (a y : ℕ) → y < a → a + y < 2 * a
      under a y h = omega arith

      four : (s n : ℕ) → s ≤ n → 2 * 2 * s ≤ 4 * n
      four s n h = omega arith
