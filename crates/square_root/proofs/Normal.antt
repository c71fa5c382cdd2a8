-- `pack` and `sqrt_bits`: shifts that lose nothing, and the number that a bit pattern stands for as m * 2 ^ l with m of 53 digits. Assumes nothing.
use Rattle.std.proofs.Common.{◌≡◌, ℕ, zero, suc, ◌+◌, ◌-◌, ◌*◌, ◌/◌, ◌%◌, ◌^◌, ◌<◌, ◌≤◌, cond, ltb, sym, ap, ◌∙◌, subst, le_trans, le_of_eq, lt_of_lt_of_le, lt_of_le_of_lt, mul-le-mul_right, mod-lt, mod-eq_of_lt, mul_assoc, add_comm, mul-lt-mul_of_pos_right, lt_of_not-le, not-le_of_lt, arith, lit<, lit≤, lt→ltb, pow_pos, pow_mono, pow-add}
use lib.Arith.{le→nltb}
use lib.Bits.{bit_and, and_mask}
use lib.Count.{count_leading_zeros, leading_top}
use lib.Ieee.Bits.{is_true, is_false}
use Rattle.square_root.specs.Steps.{units_of}

-- ---- m or 2 * m, by the exponent's last digit
abbrev pub even : (m l : ℕ) → ℕ
even m l = m * 2 ^ bit_and l 1 % 2 ^ 64

either : (m o : ℕ) → 2 ^ 52 ≤ m → m < 2 ^ 53 → o < 2 → (2 ^ 52 ≤ m * 2 ^ o) × (m * 2 ^ o ≤ 2 ^ 54 - 2)
either m zero lo hi h = (omega arith, omega arith)
either m (suc zero) lo hi h = (omega arith, omega arith)
either m (suc (suc o)) lo hi h = absurd (none o h)
  where
    none : (o : ℕ) → suc (suc o) < 2 → ⊥
    none o h = omega arith

module _ (m l : ℕ) (lo : 2 ^ 52 ≤ m) (hi : m < 2 ^ 53) where
  pub range : (2 ^ 52 ≤ m * 2 ^ (l % 2)) × (m * 2 ^ (l % 2) ≤ 2 ^ 54 - 2)
  range = either m (l % 2) lo hi (mod-lt l (lit< tt))

  pub even_is : even m l ≡ m * 2 ^ (l % 2)
  even_is = ap (λ (o : ℕ). m * 2 ^ o % 2 ^ 64) (and_mask l 1) ∙ mod-eq_of_lt (lt_of_le_of_lt range.1 (lit< tt))

  pub even_range : (2 ^ 52 ≤ even m l) × (even m l ≤ 2 ^ 54 - 2)
  even_range = subst (λ (h : ℕ). (2 ^ 52 ≤ h) × (h ≤ 2 ^ 54 - 2)) (sym even_is) range

-- ---- a pattern of a normal value
pub normal_range : (b t : ℕ) → b < 0x7ff0_0000_0000_0000 → t < 2 ^ 52 → (2 ^ 52 ≤ t + 2 ^ 52) × (t + 2 ^ 52 < 2 ^ 53) × (1022 ≤ b / 2 ^ 52 + 1073) × (b / 2 ^ 52 + 1073 < 3120)
normal_range b t h k = (omega arith, omega arith, omega arith, omega arith)

module _ (b : ℕ) (norm : 2 ^ 52 ≤ b) where
  pub normal_digits : (b % 2 ^ 52 + 2 ^ 52) * 2 ^ (b / 2 ^ 52 + 1073) ≡ units_of b * 2 ^ 1074
  unfolding units_of
  normal_digits =
      ap (λ (t : ℕ). t * 2 ^ (b / 2 ^ 52 + 1073)) (add_comm (b % 2 ^ 52) (2 ^ 52))
      ∙ ap (λ (e : ℕ). (2 ^ 52 + b % 2 ^ 52) * 2 ^ e) (lower b norm)
      ∙ ap (λ (p : ℕ). (2 ^ 52 + b % 2 ^ 52) * p) (pow-add 2 (b / 2 ^ 52 - 1) 1074)
      ∙ sym (mul_assoc (2 ^ 52 + b % 2 ^ 52) (2 ^ (b / 2 ^ 52 - 1)) (2 ^ 1074))
      ∙ ap (λ t. cond t b ((2 ^ 52 + b % 2 ^ 52) * 2 ^ (b / 2 ^ 52 - 1)) * 2 ^ 1074) (sym (is_false (ltb b (2 ^ 52)) (le→nltb b (2 ^ 52) norm)))
    where
      lower : (b : ℕ) → 2 ^ 52 ≤ b → b / 2 ^ 52 + 1073 ≡ b / 2 ^ 52 - 1 + 1074
      lower b h = omega arith

  pub normal_units : (bit_and b (2 ^ 52 - 1) + 2 ^ 52) * 2 ^ (b / 2 ^ 52 + 1073) ≡ units_of b * 2 ^ 1074
  normal_units = ap (λ (t : ℕ). (t + 2 ^ 52) * 2 ^ (b / 2 ^ 52 + 1073)) (and_mask b 52) ∙ normal_digits

-- ---- a pattern of a subnormal value
module _ (b : ℕ) (some : 0 < b) (sub : b < 2 ^ 52) where
  top : (j : ℕ) × (count_leading_zeros 64 b + suc j ≡ 64) × (2 ^ j ≤ b) × (b < 2 ^ suc j)
  top = leading_top 64 b some (lt_of_lt_of_le sub (lit≤ tt))

  top_lt : top.0 < 52
  top_lt = lt_of_not-le (λ (g : 52 ≤ top.0). not-le_of_lt sub (le_trans (pow_mono g) top.2))

  abbrev shift : ℕ
  shift = count_leading_zeros 64 b - 11

  shift_is : top.0 + shift ≡ 52
  shift_is = go (count_leading_zeros 64 b) top.0 top.1 top_lt
    where
      go : (z j : ℕ) → z + suc j ≡ 64 → j < 52 → j + (z - 11) ≡ 52
      go z j e h = omega arith

  pub zeros_range : (12 ≤ count_leading_zeros 64 b) × (count_leading_zeros 64 b ≤ 63)
  zeros_range = go (count_leading_zeros 64 b) top.0 top.1 top_lt
    where
      go : (z j : ℕ) → z + suc j ≡ 64 → j < 52 → (12 ≤ z) × (z ≤ 63)
      go z j e h = (omega arith, omega arith)

  pub shift_le : shift ≤ 52
  shift_le = go top.0 shift shift_is
    where
      go : (j s : ℕ) → j + s ≡ 52 → s ≤ 52
      go j s e = omega arith

  low : 2 ^ 52 ≤ b * 2 ^ shift
  low = le_trans (le_of_eq (ap (λ (x : ℕ). 2 ^ x) (sym shift_is) ∙ pow-add 2 top.0 shift)) (mul-le-mul_right (2 ^ shift) top.2)

  high : b * 2 ^ shift < 2 ^ 53
  high = lt_of_lt_of_le (mul-lt-mul_of_pos_right top.3 (pow_pos shift)) (le_of_eq (sym (pow-add 2 (suc top.0) shift) ∙ ap (λ (x : ℕ). 2 ^ x) (next top.0 shift shift_is)))
    where
      next : (j s : ℕ) → j + s ≡ 52 → suc j + s ≡ 53
      next j s e = omega arith

  abbrev up : ℕ
  up = b * 2 ^ shift % 2 ^ 64

  up_is : up ≡ b * 2 ^ shift
  up_is = mod-eq_of_lt (lt_of_lt_of_le high (lit≤ tt))

  pub up_range : (2 ^ 52 ≤ up) × (up < 2 ^ 53)
  up_range = subst (λ (x : ℕ). (2 ^ 52 ≤ x) × (x < 2 ^ 53)) (sym up_is) (low, high)

  pub subnormal_units : up * 2 ^ (1074 - shift) ≡ units_of b * 2 ^ 1074
  unfolding units_of
  subnormal_units =
      ap (λ (x : ℕ). x * 2 ^ (1074 - shift)) up_is
      ∙ mul_assoc b (2 ^ shift) (2 ^ (1074 - shift))
      ∙ ap (λ (x : ℕ). b * x) (sym (pow-add 2 shift (1074 - shift)) ∙ ap (λ (x : ℕ). 2 ^ x) (sum shift shift_le))
      ∙ ap (λ t. cond t b ((2 ^ 52 + b % 2 ^ 52) * 2 ^ (b / 2 ^ 52 - 1)) * 2 ^ 1074) (sym (is_true (ltb b (2 ^ 52)) (lt→ltb b (2 ^ 52) sub)))
    where
      sum : (s : ℕ) → s ≤ 52 → s + (1074 - s) ≡ 1074
      sum s h = omega arith
