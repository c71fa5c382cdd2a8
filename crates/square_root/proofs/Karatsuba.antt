-- A root's lower half of digits from its upper half, after Zimmermann. n is s * s + r, with s the whole part of its root; b is the base, and s has its leading digit set: b ≤ 2 * s.
-- With r * b ≡ q * (2 * s) + u and u < 2 * s, the whole part of the root of n * (b * b) is s * b + q, or one less where u * b < q * q. Assumes nothing.
use Rattle.std.proofs.Common.{◌≡◌, ℕ, ◌+◌, ◌*◌, ◌<◌, ◌≤◌, sym, refl, ap, ◌∙◌, subst, zero-le, le_trans, le_of_eq, lt_of_le_of_lt, le_of_lt, add_assoc, mul-le-mul_right, mul_assoc, mul_comm, add-mul, mul-le-mul, add_comm, mul-lt-mul_of_pos_right, mul-one, mul-add, le_of_mul-le-mul_right, mul_left_comm, two-mul, arith}
use native.Mathlib.Nat.{add_left_comm}
use Rattle.square_root.specs.Steps.{Root}

pub square : (x y : ℕ) → (x + y) * (x + y) ≡ x * x + 2 * (x * y) + y * y
square x y = simp (two-mul, mul-add, add-mul, mul_comm, add_assoc, add_comm, add_left_comm) refl

next : (x q : ℕ) → x * (q + 1) ≡ x * q + x
next x q = mul-add x q 1 ∙ ap (λ (k : ℕ). x * q + k) (mul-one x)

-- a product of two numbers grows with each
pub squares : {a b : ℕ} → a ≤ b → a * a ≤ b * b
squares h = mul-le-mul h h

pub squares-lt : {a b : ℕ} → a < b → a * a < b * b
squares-lt {a} {b} h = lt_of_le_of_lt (le_trans (mul-le-mul_right a (le_of_lt h)) (le_of_eq (mul_comm b a))) (mul-lt-mul_of_pos_right h (lt_of_le_of_lt zero-le h))

-- n * (b * b), written over s, q, u and b
whole : (s b q u r n : ℕ) → s * s + r ≡ n → r * b ≡ q * (2 * s) + u → n * (b * b) ≡ s * b * (s * b) + 2 * (s * b * q) + u * b
whole s b q u r n e f =
    ap (λ (x : ℕ). x * (b * b)) (sym e)
    ∙ one
    ∙ ap (λ (x : ℕ). s * b * (s * b) + x * b) f
    ∙ two
  where
    one : (s * s + r) * (b * b) ≡ s * b * (s * b) + r * b * b
    one = simp (add-mul, mul_assoc, mul_comm, mul_left_comm, add_comm) refl

    two : s * b * (s * b) + (q * (2 * s) + u) * b ≡ s * b * (s * b) + 2 * (s * b * q) + u * b
    two = simp (add-mul, mul_assoc, mul_comm, mul_left_comm, add_assoc, add_comm, add_left_comm) refl

module _ (s b q u r n : ℕ) (e : s * s + r ≡ n) (f : r * b ≡ q * (2 * s) + u) where
  -- where u * b reaches q * q, and does not go further beyond it than a root leaves over
  pub between : q * q ≤ u * b → u * b ≤ q * q + 2 * (s * b + q) → Root (n * (b * b)) (s * b + q)
  between h j =
      let w = whole s b q u r n e f in
      let lo = square (s * b) q in
      let hi = square (s * b + q) 1 in
      record { low = omega arith; high = omega arith }

  -- as it does not where u is a remainder
  pub as_it_is : 0 < b → u < 2 * s → q * q ≤ u * b → Root (n * (b * b)) (s * b + q)
  as_it_is B U h =
      let ub : u * b < 2 * s * b = mul-lt-mul_of_pos_right U B in
      let ac = mul_assoc 2 s b in
      between h (omega arith)

  -- and where it does not
  pub one_less : (p : ℕ) → q ≡ p + 1 → r ≤ 2 * s → 0 < s → b ≤ 2 * s → u * b < q * q → Root (n * (b * b)) (s * b + p)
  one_less p P R S B h =
      let w = whole s b q u r n e f in
      let q-le : q * (2 * s) ≤ b * (2 * s) = le_trans (le_trans (plus (q * (2 * s)) u) (le_of_eq (sym f))) (le_trans (mul-le-mul_right b R) (le_of_eq (mul_comm (2 * s) b))) in
      let q-b : q ≤ b = le_of_mul-le-mul_right q-le (twice s S) in
      let pp : p * p ≤ b * b = squares (le_trans (below p q P) q-b) in
      let bb : b * b ≤ 2 * s * b = mul-le-mul_right b B in
      let ac = mul_assoc 2 s b in
      let lo = square (s * b) p in
      let hi = square (s * b) q in
      let nx : s * b * q ≡ s * b * p + s * b = ap (λ (k : ℕ). s * b * k) P ∙ next (s * b) p in
      let g : s * b + q ≡ s * b + p + 1 = ap (λ (k : ℕ). s * b + k) P ∙ sym (add_assoc (s * b) p 1) in
      record {
        low = omega arith;
        high = subst (λ (k : ℕ). n * (b * b) < k * k) g (omega arith);
      }
    where
      plus : (x y : ℕ) → x ≤ x + y
      plus x y = omega arith

      twice : (x : ℕ) → 0 < x → 0 < 2 * x
      twice x h = omega arith

      below : (x y : ℕ) → y ≡ x + 1 → x ≤ y
      below x y k = omega arith
