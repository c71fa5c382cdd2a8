-- `root54` and `many::by_hint`, in the numbers that they compute with: n of 53 or 54 digits, s the upper digits of its root. Assumes nothing.
use Rattle.std.proofs.Common.{◌≡◌, ℕ, zero, suc, ◌+◌, ◌-◌, ◌*◌, ◌/◌, ◌%◌, ◌^◌, ◌<◌, ◌≤◌, sym, ap, ◌∙◌, subst, le_trans, lt_of_lt_of_le, le_of_suc-le-suc, mod-lt, mul_assoc, mul_comm, div-lt_iff_lt-mul, lt_of_not-le, div-add-mod', not-le_of_lt, arith, lit<}
use Rattle.square_root.specs.Steps.{Root}
use Rattle.square_root.proofs.Products.{mul-lt-pow}
use Rattle.square_root.proofs.Karatsuba.{square, squares, between, as_it_is, one_less}

module _ (n s : ℕ) (w : Root n s) (lo : 2 ^ 52 ≤ n) (hi : n < 2 ^ 54) where
  pub s_hi : s < 2 ^ 27
  s_hi = lt_of_not-le (λ (g : 2 ^ 27 ≤ s). not-le_of_lt hi (le_trans (squares g) w.low))

  pub s_lo : 2 ^ 26 ≤ s
  s_lo = le_of_suc-le-suc (lt_of_not-le (λ (g : suc s ≤ 2 ^ 26). not-le_of_lt (lt_of_lt_of_le w.high (squares (next g))) lo))
    where
      next : suc s ≤ 2 ^ 26 → s + 1 ≤ 2 ^ 26
      next g = omega arith

  pub rest_le : n - s * s ≤ 2 * s
  rest_le = let e = square s 1 in let h = w.high in go (s * s) (s * 1) e h
    where
      go : (a b : ℕ) → (s + 1) * (s + 1) ≡ a + 2 * (s * 1) + 1 → n < (s + 1) * (s + 1) → n - a ≤ 2 * s
      go a b e h = omega arith

  split : s * s + (n - s * s) ≡ n
  split = let h = w.low in omega arith

  pub up_is : (n - s * s) * 2 ^ 27 % 2 ^ 64 ≡ (n - s * s) * 2 ^ 27
  up_is = go (n - s * s) rest_le s_hi
    where
      go : (r : ℕ) → r ≤ 2 * s → s < 2 ^ 27 → r * 2 ^ 27 % 2 ^ 64 ≡ r * 2 ^ 27
      go r h k = omega arith

  pub top_is : s * 2 ^ 27 % 2 ^ 64 ≡ s * 2 ^ 27
  top_is = let h = s_hi in omega arith

  pub two-s : 0 < 2 * s
  two-s = let h = s_lo in omega arith

  -- the lower digits and what is left, from a = (n - s * s) << 27
  pub q-le : (n - s * s) * 2 ^ 27 / (2 * s) ≤ 2 ^ 27
  q-le = le_of_suc-le-suc ((div-lt_iff_lt-mul two-s).1 (go (n - s * s) (2 * s) rest_le two-s))
    where
      go : (r d : ℕ) → r ≤ d → 0 < d → r * 2 ^ 27 < suc (2 ^ 27) * d
      go r d h k = omega arith

  pub u-lt : (n - s * s) * 2 ^ 27 % (2 * s) < 2 ^ 28
  u-lt = let h = mod-lt ((n - s * s) * 2 ^ 27) two-s in let k = s_hi in go ((n - s * s) * 2 ^ 27 % (2 * s)) h k
    where
      go : (u : ℕ) → u < 2 * s → s < 2 ^ 27 → u < 2 ^ 28
      go u h k = omega arith

  pub result : (a q u t : ℕ) → a ≡ (n - s * s) * 2 ^ 27 → q ≡ a / (2 * s) → u ≡ a % (2 * s) → t ≡ s * 2 ^ 27 → q * q ≤ u * 2 ^ 27 → Root (n * 2 ^ 54) (t + q)
  result a q u t ea eq eu et h =
      subst (λ (k : ℕ). Root (n * 2 ^ 54) (k + q)) (sym et)
      (as_it_is s (2 ^ 27) q u (n - s * s) n split (sym ea ∙ sym (div-add-mod' a (2 * s)) ∙ (λ i. sym eq i * (2 * s) + sym eu i)) (lit< tt)
      (subst (λ (k : ℕ). k < 2 * s) (sym eu) (mod-lt a two-s)) h)

  pub result_less : (a q u t : ℕ) → a ≡ (n - s * s) * 2 ^ 27 → q ≡ a / (2 * s) → u ≡ a % (2 * s) → t ≡ s * 2 ^ 27 → u * 2 ^ 27 < q * q → Root (n * 2 ^ 54) (t + q - 1)
  result_less a zero u t ea eq eu et h = absurd (none (u * 2 ^ 27) h)
    where
      none : (k : ℕ) → k < 0 → ⊥
      none k g = omega arith
  result_less a (suc p) u t ea eq eu et h =
      subst (λ (k : ℕ). Root (n * 2 ^ 54) k) (ap (λ (k : ℕ). k + p) (sym et) ∙ pred t p)
      (one_less s (2 ^ 27) (suc p) u (n - s * s) n split (sym ea ∙ sym (div-add-mod' a (2 * s)) ∙ (λ i. sym eq i * (2 * s) + sym eu i)) p (one p)
      rest_le (half s two-s) (twice s s_lo) h)
    where
      pred : (t p : ℕ) → t + p ≡ t + suc p - 1
      pred t p = omega arith

      one : (p : ℕ) → suc p ≡ p + 1
      one p = omega arith

      half : (x : ℕ) → 0 < 2 * x → 0 < x
      half x h = omega arith

      twice : (x : ℕ) → 2 ^ 26 ≤ x → 2 ^ 27 ≤ 2 * x
      twice x h = omega arith

-- `many::by_hint`, in the numbers that it computes with: s has the upper digits and q the lower ones; r, u and d are what is left over, and e is what d leaves of twice the root. Where the
-- doubt is 0, all four are so small that no difference went below 0.
no_doubt : (a b c d : ℕ) → a + b + c + d ≡ 0 → (a ≡ 0) × (b ≡ 0) × (c ≡ 0) × (d ≡ 0)
no_doubt a b c d h = (omega arith, omega arith, omega arith, omega arith)

upper_left : (ss r n : ℕ) → ss ≤ (2 ^ 32 - 1) * (2 ^ 32 - 1) → 2 ^ 52 ≤ n → n < 2 ^ 54 → r / 2 ^ 37 ≡ 0 → (r + ss) % 2 ^ 64 ≡ n * 2 ^ 10 % 2 ^ 64 → ss + r ≡ n * 2 ^ 10
upper_left ss r n most lo hi few e = omega arith

lower_left : (sq u r : ℕ) → sq < 2 ^ 60 → r / 2 ^ 37 ≡ 0 → u / 2 ^ 34 ≡ 0 → (u + sq) % 2 ^ 64 ≡ r * 2 ^ 21 % 2 ^ 64 → sq + u ≡ r * 2 ^ 21
lower_left sq u r most few less e = omega arith

all_left : (qq d u : ℕ) → qq < 2 ^ 56 → u / 2 ^ 34 ≡ 0 → d / 2 ^ 63 ≡ 0 → (d + qq) % 2 ^ 64 ≡ u * 2 ^ 23 % 2 ^ 64 → qq + d ≡ u * 2 ^ 23
all_left qq d u most few less e = omega arith

at_most : (d e g : ℕ) → d / 2 ^ 63 ≡ 0 → e / 2 ^ 63 ≡ 0 → (e + d) % 2 ^ 64 ≡ 2 * g → d ≤ 2 * g
at_most d e g few less h = omega arith

module _ (n s q r u d e : ℕ) (lo : 2 ^ 52 ≤ n) (hi : n < 2 ^ 54) (S : s < 2 ^ 32) (Q : q < 2 ^ 28) where
  pub told : (r + s * s) % 2 ^ 64 ≡ n * 2 ^ 10 % 2 ^ 64 → (u + s * q) % 2 ^ 64 ≡ r * 2 ^ 21 % 2 ^ 64 → (d + q * q) % 2 ^ 64 ≡ u * 2 ^ 23 % 2 ^ 64 → (e + d) % 2 ^ 64 ≡ 2 * (s * 2 ^ 22 % 2 ^ 64 + q)
      → r / 2 ^ 37 + u / 2 ^ 34 + d / 2 ^ 63 + e / 2 ^ 63 ≡ 0 → Root (n * 2 ^ 54) (s * 2 ^ 22 % 2 ^ 64 + q)
  told er eu ed ee none =
      let z = no_doubt (r / 2 ^ 37) (u / 2 ^ 34) (d / 2 ^ 63) (e / 2 ^ 63) none in
      let split = upper_left (s * s) r n (squares (below s S)) lo hi z.0 er in
      let left = doubled (s * q) u r (lower_left (s * q) u r (mul-lt-pow 32 28 S Q) z.0 z.1 eu) in
      let rest = all_left (q * q) d u (mul-lt-pow 28 28 Q Q) z.1 z.2 ed in
      let most = at_most d e (s * 2 ^ 22 % 2 ^ 64 + q) z.2 z.3 ee in
      let top : s * 2 ^ 22 % 2 ^ 64 ≡ s * 2 ^ 22 = whole s S in
      subst (λ (t : ℕ). Root (n * 2 ^ 54) (t + q)) (sym top)
      (subst (λ (m : ℕ). Root m (s * 2 ^ 22 + q)) (again n)
      (between s (2 ^ 22) q (2 * u) r (n * 2 ^ 10) split (left ∙ ap (λ (k : ℕ). k + 2 * u) (sym (twice q s)))
      (reach (q * q) d u rest) (within (q * q) d u (s * 2 ^ 22 + q) rest (subst (λ (t : ℕ). d ≤ 2 * (t + q)) top most))))
    where
      below : (s : ℕ) → s < 2 ^ 32 → s ≤ 2 ^ 32 - 1
      below s h = omega arith

      doubled : (sq u r : ℕ) → sq + u ≡ r * 2 ^ 21 → r * 2 ^ 22 ≡ 2 * sq + 2 * u
      doubled sq u r h = omega arith

      twice : (q s : ℕ) → q * (2 * s) ≡ 2 * (s * q)
      twice q s = mul_comm q (2 * s) ∙ mul_assoc 2 s q

      whole : (s : ℕ) → s < 2 ^ 32 → s * 2 ^ 22 % 2 ^ 64 ≡ s * 2 ^ 22
      whole s h = omega arith

      again : (n : ℕ) → n * 2 ^ 10 * (2 ^ 22 * 2 ^ 22) ≡ n * 2 ^ 54
      again n = omega arith

      reach : (qq d u : ℕ) → qq + d ≡ u * 2 ^ 23 → qq ≤ 2 * u * 2 ^ 22
      reach qq d u h = omega arith

      within : (qq d u g : ℕ) → qq + d ≡ u * 2 ^ 23 → d ≤ 2 * g → 2 * u * 2 ^ 22 ≤ qq + 2 * g
      within qq d u g h k = omega arith
