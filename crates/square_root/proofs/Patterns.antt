-- The bit patterns of binary64: what number the pattern of a positive finite value stands for, and what `sqrt` returns at each pattern. Assumes nothing.
use Rattle.std.proofs.Common.{◌≡◌, ℕ, zero, suc, ◌+◌, ◌-◌, ◌*◌, ◌/◌, ◌%◌, ◌^◌, ◌<◌, ◌≤◌, Bool, true, false, cond, not, T, eqb, ltb, leb, ℤ, pos, negsuc, sym, refl, ap, ◌∙◌, subst, true≢false, lt_of_lt_of_le, mod-eq_of_lt, mul-pos, one-mul, lt_of_not-le, mul-one, not-le_of_lt, arith, lit<, le→leb, eqb→eq, lt→ltb, leb→le, pow_pos}
use native.Mathlib.Nat.{pow-succ'}
use native.Mathlib.Decide.{dec_le}
use mathlib.Core.Bool.{false≢true}
use lib.Dec.{not_T}
use lib.Arith.{le→nltb}
use lib.Ieee.{Float, nan, inf, fin, binary64, up, down, odd, of_fields, of_bits, to_bits, nan_bits, is_nan, fits, ne}
use lib.Ieee.Compare.{differs_from_itself, nan_differs}
use lib.Ieee.Bits.{is_true, is_false, cond_no, of_bits-to_bits, of_bits-fits, nan_bits_is}
use lib.Ieee.Exact.{HasValue, odd_sign}
use lib.Ieee.Positive.{positive, positive_of_value}
use Rattle.square_root.specs.SquareRoot.{IsSquareRoot, Nearest}
use Rattle.square_root.specs.Steps.{RootBits, units_of}
use Rattle.square_root.proofs.Gap.{Nearby}
use Rattle.square_root.proofs.Values.{nearer}
use Rattle.square_root.proofs.Ties.{is_nearest}

-- ---- reading a pattern with its sign clear
of_bits_is : (b : ℕ) → of_bits binary64 b ≡ of_fields binary64 (leb (2 ^ 63) b) (b % 2 ^ 63 / 2 ^ 52) (b % 2 ^ 52)
unfolding of_bits
of_bits_is b = refl

sign_clear : (b : ℕ) → b < 2 ^ 63 → of_bits binary64 b ≡ of_fields binary64 false (b / 2 ^ 52) (b % 2 ^ 52)
sign_clear b h =
    of_bits_is b
    ∙ ap (λ (s : Bool). of_fields binary64 s (b % 2 ^ 63 / 2 ^ 52) (b % 2 ^ 52)) (is_false (leb (2 ^ 63) b) (not_T (leb (2 ^ 63) b) (λ (u : T (leb (2 ^ 63) b)). not-le_of_lt h (leb→le (2 ^ 63) b u))))
    ∙ ap (λ (x : ℕ). of_fields binary64 false (x / 2 ^ 52) (b % 2 ^ 52)) (mod-eq_of_lt h)

sign_set : (b : ℕ) → 2 ^ 63 ≤ b → of_bits binary64 b ≡ of_fields binary64 true (b % 2 ^ 63 / 2 ^ 52) (b % 2 ^ 52)
sign_set b h = of_bits_is b ∙ ap (λ (s : Bool). of_fields binary64 s (b % 2 ^ 63 / 2 ^ 52) (b % 2 ^ 52)) (is_true (leb (2 ^ 63) b) (le→leb (2 ^ 63) b h))

under_ones : (t x : ℕ) → suc x < 2047 → of_fields binary64 false (suc x) t ≡ odd 53 false (2 ^ 52 + t) x 1074
unfolding of_fields
under_ones t x h = cond_no (eqb (suc x) 2047) (cond (eqb t 0) (inf false) nan) (odd 53 false (2 ^ 52 + t) x 1074) (not_T (eqb (suc x) 2047) (λ (u : T (eqb (suc x) 2047)). differ x h (eqb→eq (suc x) 2047 u)))
  where
    differ : (x : ℕ) → suc x < 2047 → suc x ≡ 2047 → ⊥
    differ x h e = omega arith

at_zero : (t : ℕ) → of_fields binary64 false 0 t ≡ odd 53 false t 0 1074
unfolding of_fields
at_zero t = refl

normal : (b : ℕ) → 2 ^ 52 ≤ b → b < 0x7ff0_0000_0000_0000 → HasValue (of_bits binary64 b) false ((2 ^ 52 + b % 2 ^ 52) * 2 ^ (b / 2 ^ 52 - 1)) (2 ^ 1074)
normal b l h =
    let e : of_bits binary64 b ≡ odd 53 false (2 ^ 52 + b % 2 ^ 52) (b / 2 ^ 52 - 1) 1074 =
    sign_clear b (small b h) ∙ ap (λ (x : ℕ). of_fields binary64 false x (b % 2 ^ 52)) (field b l) ∙ under_ones (b % 2 ^ 52) (b / 2 ^ 52 - 1) (field_lt b l h) in
    subst (λ (x : Float). HasValue x false ((2 ^ 52 + b % 2 ^ 52) * 2 ^ (b / 2 ^ 52 - 1)) (2 ^ 1074)) (sym e) (odd_sign 53 false (2 ^ 52 + b % 2 ^ 52) (b / 2 ^ 52 - 1) 1074)
  where
    small : (b : ℕ) → b < 0x7ff0_0000_0000_0000 → b < 2 ^ 63
    small b h = omega arith

    field : (b : ℕ) → 2 ^ 52 ≤ b → b / 2 ^ 52 ≡ suc (b / 2 ^ 52 - 1)
    field b h = omega arith

    field_lt : (b : ℕ) → 2 ^ 52 ≤ b → b < 0x7ff0_0000_0000_0000 → suc (b / 2 ^ 52 - 1) < 2047
    field_lt b h k = omega arith

subnormal : (b : ℕ) → b < 2 ^ 52 → HasValue (of_bits binary64 b) false b (2 ^ 1074)
subnormal b h =
    let e : of_bits binary64 b ≡ odd 53 false b 0 1074 =
    sign_clear b (small b h) ∙ ap (λ (x : ℕ). of_fields binary64 false x (b % 2 ^ 52)) (field b h) ∙ ap (λ (t : ℕ). of_fields binary64 false 0 t) (mod-eq_of_lt h) ∙ at_zero b in
    subst (λ (n : ℕ). HasValue (of_bits binary64 b) false n (2 ^ 1074)) (mul-one b)
    (subst (λ (x : Float). HasValue x false (b * 2 ^ 0) (2 ^ 1074)) (sym e) (odd_sign 53 false b 0 1074))
  where
    small : (b : ℕ) → b < 2 ^ 52 → b < 2 ^ 63
    small b h = omega arith

    field : (b : ℕ) → b < 2 ^ 52 → b / 2 ^ 52 ≡ 0
    field b h = omega arith

pub bits_value : (b : ℕ) → b < 0x7ff0_0000_0000_0000 → HasValue (of_bits binary64 b) false (units_of b) (2 ^ 1074)
unfolding units_of
bits_value b h = go (dec_le (2 ^ 52) b)
  where
    go : Dec (2 ^ 52 ≤ b) → HasValue (of_bits binary64 b) false (units_of b) (2 ^ 1074)
    go (yes l) = subst (λ (t : Bool). HasValue (of_bits binary64 b) false (cond t b ((2 ^ 52 + b % 2 ^ 52) * 2 ^ (b / 2 ^ 52 - 1))) (2 ^ 1074)) (sym (is_false (ltb b (2 ^ 52)) (le→nltb b (2 ^ 52) l))) (normal b l h)
    go (no f) = subst (λ (t : Bool). HasValue (of_bits binary64 b) false (cond t b ((2 ^ 52 + b % 2 ^ 52) * 2 ^ (b / 2 ^ 52 - 1))) (2 ^ 1074)) (sym (is_true (ltb b (2 ^ 52)) (lt→ltb b (2 ^ 52) (lt_of_not-le f)))) (subnormal b (lt_of_not-le f))

-- ---- the pattern that `sqrt_bits` returns
module _ (n r : ℕ) (w : RootBits n r) where
  root_value : HasValue (of_bits binary64 r) false (w.q * 2 ^ w.k) (2 ^ 1074)
  root_value =
      subst (λ (m : ℕ). HasValue (of_bits binary64 r) false (m * 2 ^ w.k) (2 ^ 1074)) (digits r w.k w.q w.pattern w.from w.to)
      (subst (λ (x : ℕ). HasValue (of_bits binary64 r) false ((2 ^ 52 + r % 2 ^ 52) * 2 ^ x) (2 ^ 1074)) (field r w.k w.q w.pattern w.from w.to)
      (normal r (least r w.k w.q w.pattern w.from) (most r w.k w.q w.pattern w.small w.to)))
    where
      digits : (r k q : ℕ) → r ≡ k * 2 ^ 52 + q → 2 ^ 52 ≤ q → q < 2 ^ 53 → 2 ^ 52 + r % 2 ^ 52 ≡ q
      digits r k q e l h = omega arith

      field : (r k q : ℕ) → r ≡ k * 2 ^ 52 + q → 2 ^ 52 ≤ q → q < 2 ^ 53 → r / 2 ^ 52 - 1 ≡ k
      field r k q e l h = omega arith

      least : (r k q : ℕ) → r ≡ k * 2 ^ 52 + q → 2 ^ 52 ≤ q → 2 ^ 52 ≤ r
      least r k q e l = omega arith

      most : (r k q : ℕ) → r ≡ k * 2 ^ 52 + q → k < 2045 → q < 2 ^ 53 → r < 0x7ff0_0000_0000_0000
      most r k q e l h = omega arith

  nearby : Nearby 52 n w.k w.q
  nearby = record { some = lt_of_lt_of_le (lit< tt) w.from; lead = λ _. w.from; digits = λ _. w.digits; low = w.low; high = w.high }

  no_nan : (z : Float) (a c : ℕ) → HasValue z false a c → T (not (is_nan z))
  unfolding is_nan
  no_nan nan a c h = absurd h
  no_nan (inf s) a c h = tt
  no_nan (fin s m e) a c h = tt

  pub root_no_nan : T (not (nan_bits binary64 r))
  root_no_nan = subst (λ (t : Bool). T (not t)) (sym (nan_bits_is binary64 r)) (no_nan (of_bits binary64 r) (w.q * 2 ^ w.k) (2 ^ 1074) root_value)

-- ---- `IsSquareRoot` at a value that is finite and above zero
positive_root : (x r : Float) → T (positive x) → Nearest binary64 x r → IsSquareRoot binary64 x r
unfolding IsSquareRoot
positive_root nan r p h = absurd p
positive_root (inf s) r p h = absurd p
positive_root (fin true m e) r p h = absurd p
positive_root (fin false zero e) r p h = absurd p
positive_root (fin false (suc m) e) r p h = h

units_pos : (b : ℕ) → 0 < b → 0 < units_of b
unfolding units_of
units_pos b h = go (ltb b (2 ^ 52))
  where
    go : (t : Bool) → 0 < cond t b ((2 ^ 52 + b % 2 ^ 52) * 2 ^ (b / 2 ^ 52 - 1))
    go true = h
    go false = mul-pos (lead (b % 2 ^ 52)) (pow_pos (b / 2 ^ 52 - 1))
      where
        lead : (t : ℕ) → 0 < 2 ^ 52 + t
        lead t = omega arith

pub main : (b r : ℕ) → 0 < b → b < 0x7ff0_0000_0000_0000 → RootBits (units_of b * 2 ^ 1074) r → IsSquareRoot binary64 (of_bits binary64 b) (of_bits binary64 r)
main b r some h w =
    let n = units_of b * 2 ^ 1074 in
    positive_root (of_bits binary64 b) (of_bits binary64 r) (positive_of_value (of_bits binary64 b) (units_of b) (2 ^ 1074) (bits_value b h) (units_pos b some))
    (is_nearest binary64 (of_bits binary64 b) (of_bits binary64 r)
    (nearer binary64 (of_bits binary64 b) (of_bits binary64 r) (units_of b) w.k w.q (bits_value b h) (root_value n r w) (nearby n r w) (of_bits-fits binary64 r)))

-- ---- the other patterns
pub at-nan : IsSquareRoot binary64 nan nan
unfolding IsSquareRoot
at-nan = refl

pub at-plus-zero : IsSquareRoot binary64 (of_bits binary64 0) (of_bits binary64 0)
unfolding IsSquareRoot of_bits
at-plus-zero = refl

pub at-minus-zero : IsSquareRoot binary64 (of_bits binary64 (2 ^ 63)) (of_bits binary64 (2 ^ 63))
unfolding IsSquareRoot of_bits
at-minus-zero = refl

ones_field : (t : ℕ) → IsSquareRoot binary64 (of_fields binary64 false 2047 t) (of_fields binary64 false 2047 t)
unfolding IsSquareRoot of_fields
ones_field t = go (eqb t 0)
  where
    go : (a : Bool) → IsSquareRoot binary64 (cond a (inf false) nan) (cond a (inf false) nan)
    go true = refl
    go false = refl

pub at_top : (b : ℕ) → 0x7ff0_0000_0000_0000 ≤ b → b < 2 ^ 63 → IsSquareRoot binary64 (of_bits binary64 b) (of_bits binary64 b)
at_top b l h =
    subst (λ (x : Float). IsSquareRoot binary64 x x) (sym (sign_clear b h ∙ ap (λ (x : ℕ). of_fields binary64 false x (b % 2 ^ 52)) (field b l h))) (ones_field (b % 2 ^ 52))
  where
    field : (b : ℕ) → 0x7ff0_0000_0000_0000 ≤ b → b < 2 ^ 63 → b / 2 ^ 52 ≡ 2047
    field b l h = omega arith

-- ---- below zero
abbrev sign : Float → Bool
sign nan = true
sign (inf s) = s
sign (fin s m e) = s

sign_odd : (d q k l : ℕ) → sign (odd d true q k l) ≡ true
unfolding odd
sign_odd d zero k l = refl
sign_odd d (suc q) k l = refl

sign_fields : (x t : ℕ) → sign (of_fields binary64 true x t) ≡ true
unfolding of_fields
sign_fields zero t = sign_odd 53 t 0 1074
sign_fields (suc x) t = go (eqb (suc x) 2047) (eqb t 0)
  where
    go : (a b : Bool) → sign (cond a (cond b (inf true) nan) (odd 53 true (2 ^ 52 + t) x 1074)) ≡ true
    go true true = refl
    go true false = refl
    go false b = sign_odd 53 (2 ^ 52 + t) x 1074

no_power : (x y : ℕ) → x ≡ 2 * y → 0 < y → x ≡ 1 → ⊥
no_power x y e p h = omega arith

plain : (e : ℤ) → up e * down e ≡ 1 → e ≡ pos 0
plain (pos zero) h = refl
plain (pos (suc a)) h = absurd (no_power (2 ^ suc a) (2 ^ a) (pow-succ' 2 a) (pow_pos a) (sym (mul-one (2 ^ suc a)) ∙ h))
plain (negsuc a) h = absurd (no_power (2 ^ suc a) (2 ^ a) (pow-succ' 2 a) (pow_pos a) (sym (one-mul (2 ^ suc a)) ∙ h))

minus-zero-bits : to_bits binary64 (fin true 0 (pos 0)) ≡ 2 ^ 63
unfolding to_bits
minus-zero-bits = refl

by_sign : (x : Float) → T (fits binary64 x) → (to_bits binary64 x ≡ 2 ^ 63 → ⊥) → sign x ≡ true → IsSquareRoot binary64 x nan
unfolding IsSquareRoot fits
by_sign nan h n s = refl
by_sign (inf true) h n s = refl
by_sign (inf false) h n s = absurd (false≢true s)
by_sign (fin true zero e) h n s = absurd (n (ap (λ (d : ℤ). to_bits binary64 (fin true 0 d)) (plain e (eqb→eq (up e * down e) 1 h)) ∙ minus-zero-bits))
by_sign (fin true (suc m) e) h n s = refl
by_sign (fin false m e) h n s = absurd (false≢true s)

pub below_zero : (x : Float) → T (fits binary64 x) → 2 ^ 63 ≤ to_bits binary64 x → (to_bits binary64 x ≡ 2 ^ 63 → ⊥) → IsSquareRoot binary64 x nan
below_zero x h l n =
    let b = to_bits binary64 x in
    by_sign x h n (ap sign (sym (of_bits-to_bits binary64 x h) ∙ sign_set b l) ∙ sign_fields (b % 2 ^ 63 / 2 ^ 52) (b % 2 ^ 52))

-- ---- a NaN, and no NaN
pub is_nan_lem : (x : Float) → ne x x ≡ true → x ≡ nan
is_nan_lem x h = differs_from_itself x (subst T (sym h) tt)

pub is_no_nan : (x : Float) → ne x x ≡ false → T (not (is_nan x))
unfolding is_nan
is_no_nan nan h = absurd (true≢false (sym nan_differs ∙ h))
is_no_nan (inf s) h = tt
is_no_nan (fin s m e) h = tt
