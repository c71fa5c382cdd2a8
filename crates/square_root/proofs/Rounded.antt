-- From the whole part of a root to the nearest number of half as many halves, and `pack` in the numbers that it computes with. Assumes nothing.
use Rattle.std.proofs.Common.{◌≡◌, ℕ, suc, ◌+◌, ◌-◌, ◌*◌, ◌/◌, ◌%◌, ◌^◌, ◌<◌, ◌≤◌, sym, refl, ap, ◌∙◌, subst, le_trans, le_of_eq, lt_of_lt_of_le, le_of_suc-le-suc, lt_of_le_of_lt, mul-le-mul_right, mul_assoc, mul_comm, mul-lt-mul_of_pos_right, mul-pos, lt_of_not-le, not-le_of_lt, arith, lit<, pow_pos, pow-add}
use native.Mathlib.Nat.{mul-mul-mul_comm}
use lib.Arith.{lt_of_le-ne}
use Rattle.square_root.specs.Steps.{Root, RootBits}
use Rattle.square_root.proofs.Karatsuba.{square, squares}

-- ---- d is even, so its root is not halfway between two even numbers: with q = (s + 1) / 2, the root of d lies strictly between 2 * q - 1 and 2 * q + 1
odd_square : (p d e : ℕ) → (p + p + 1) * (p + p + 1) ≡ d → d ≡ 2 * e → ⊥
odd_square p d e h k = let g = square (p + p) 1 in go ((p + p) * (p + p)) g (twice p)
  where
    twice : (p : ℕ) → (p + p) * (p + p) ≡ 2 * (p * (p + p))
    twice p = ap (λ (x : ℕ). x * (p + p)) (dbl p) ∙ mul_assoc 2 p (p + p)
      where
        dbl : (p : ℕ) → p + p ≡ 2 * p
        dbl p = omega arith

    go : (a : ℕ) → (p + p + 1) * (p + p + 1) ≡ a + 2 * ((p + p) * 1) + 1 → a ≡ 2 * (p * (p + p)) → ⊥
    go a g t = omega arith

module _ (s d e q : ℕ) (w : Root d s) (even : d ≡ 2 * e) (is : q ≡ (s + 1) / 2) (some : 0 < q) where
  pub half-low : (2 * q - 1) * (2 * q - 1) < d
  half-low =
      lt_of_le-ne (le_trans (squares low) w.low) (λ (h : (2 * q - 1) * (2 * q - 1) ≡ d).
      odd_square (q - 1) d e (ap (λ (x : ℕ). x * x) (same q some) ∙ h) even)
    where
      low : 2 * q - 1 ≤ s
      low = omega arith

      same : (q : ℕ) → 0 < q → q - 1 + (q - 1) + 1 ≡ 2 * q - 1
      same q h = omega arith

  pub half_high : d < (2 * q + 1) * (2 * q + 1)
  half_high = lt_of_lt_of_le w.high (squares high)
    where
      high : s + 1 ≤ 2 * q + 1
      high = omega arith

-- ---- `pack`: h is m or 2 * m, so that what is left of the exponent is even
module _ (h s : ℕ) (w : Root (h * 2 ^ 54) s) (lo : 2 ^ 52 ≤ h) (hi : h ≤ 2 ^ 54 - 2) where
  pub s_lo : 2 ^ 53 ≤ s
  s_lo = le_of_suc-le-suc (lt_of_not-le (λ (g : suc s ≤ 2 ^ 53). not-le_of_lt (lt_of_lt_of_le w.high (squares (next s g))) (many h lo)))
    where
      next : (s : ℕ) → suc s ≤ 2 ^ 53 → s + 1 ≤ 2 ^ 53
      next s g = omega arith

      many : (h : ℕ) → 2 ^ 52 ≤ h → 2 ^ 53 * 2 ^ 53 ≤ h * 2 ^ 54
      many h l = omega arith

  pub s_hi : s < 2 ^ 54 - 1
  s_hi = lt_of_not-le (λ (g : 2 ^ 54 - 1 ≤ s). not-le_of_lt (few h hi) (le_trans (squares g) w.low))
    where
      few : (h : ℕ) → h ≤ 2 ^ 54 - 2 → h * 2 ^ 54 < (2 ^ 54 - 1) * (2 ^ 54 - 1)
      few h l = omega arith

  -- n is h * 2 ^ 52 * 4 ^ k
  pub packed : (n k r : ℕ) → n ≡ h * (2 ^ k * 2 ^ k) * 2 ^ 52 → k < 2045 → r ≡ k * 2 ^ 52 + (s + 1) / 2 → RootBits n r
  packed n k r e small p =
      let x = 2 ^ k in
      let q = (s + 1) / 2 in
      let from : 2 ^ 52 ≤ q = let g = s_lo in omega arith in
      let four : h * 2 ^ 54 * (x * x) ≡ 4 * n = mul_comm (h * 2 ^ 54) (x * x) ∙ sym (mul_assoc (x * x) h (2 ^ 54)) ∙ ap (λ (y : ℕ). y * 2 ^ 54) (mul_comm (x * x) h) ∙ quad (h * (x * x)) n e in
      let even : h * 2 ^ 54 ≡ 2 * (h * 2 ^ 53) = twice h in
      let some : 0 < q = lt_of_lt_of_le (lit< tt) from in
      let X : 0 < x * x = mul-pos (pow_pos k) (pow_pos k) in
      record {
        k = k;
        q = q;
        pattern = p;
        small = small;
        from = from;
        to = let g = s_hi in omega arith;
        digits = le_trans (le_of_eq (mul-mul-mul_comm (2 ^ 52) x (2 ^ 52) x)) (deep (x * x) (h * (x * x)) n e (mul-le-mul_right (x * x) lo));
        low = lt_of_le_of_lt (le_of_eq (mul-mul-mul_comm (2 * q - 1) x (2 * q - 1) x)) (subst (λ (y : ℕ). (2 * q - 1) * (2 * q - 1) * (x * x) < y) four (mul-lt-mul_of_pos_right (half-low s (h * 2 ^ 54) (h * 2 ^ 53) q w even refl some) X));
        high = subst (λ (y : ℕ). y < (2 * q + 1) * x * ((2 * q + 1) * x)) four (lt_of_lt_of_le (mul-lt-mul_of_pos_right (half_high s (h * 2 ^ 54) (h * 2 ^ 53) q w even refl some) X) (le_of_eq (sym (mul-mul-mul_comm (2 * q + 1) x (2 * q + 1) x))));
      }
    where
      quad : (y n : ℕ) → n ≡ y * 2 ^ 52 → y * 2 ^ 54 ≡ 4 * n
      quad y n e = omega arith

      twice : (h : ℕ) → h * 2 ^ 54 ≡ 2 * (h * 2 ^ 53)
      twice h = omega arith

      deep : (z y n : ℕ) → n ≡ y * 2 ^ 52 → 2 ^ 52 * z ≤ y → 2 ^ 52 * 2 ^ 52 * z ≤ n
      deep z y n e l = omega arith

-- m * 2 ^ l, with l even or odd
pub split_exponent : (m l k : ℕ) → l ≡ l % 2 + (k + k + 52) → m * 2 ^ l ≡ m * 2 ^ (l % 2) * (2 ^ k * 2 ^ k) * 2 ^ 52
split_exponent m l k e =
    ap (λ (x : ℕ). m * 2 ^ x) e
    ∙ ap (λ (x : ℕ). m * x) (pow-add 2 (l % 2) (k + k + 52) ∙ ap (λ (x : ℕ). 2 ^ (l % 2) * x) (pow-add 2 (k + k) 52 ∙ ap (λ (x : ℕ). x * 2 ^ 52) (pow-add 2 k k)))
    ∙ sym (mul_assoc m (2 ^ (l % 2)) (2 ^ k * 2 ^ k * 2 ^ 52))
    ∙ sym (mul_assoc (m * 2 ^ (l % 2)) (2 ^ k * 2 ^ k) (2 ^ 52))
