-- Signed comparison of keys is IEEE 754's totalOrder, for all 2 ^ 64 patterns. Assumes nothing.
-- Two numbers are compared in units of the least positive one, 2 ^ -1074, in which a size's order is that of its pattern.
use mathlib.Core.Path.{◌≡◌, refl, sym, ap, ◌∙◌, subst}
use mathlib.Core.Logic.{⊎_elim}
use mathlib.Core.Bool.{Bool, true, false, not, ◌&&◌, ◌||◌, cond}
use Prim.Native.Nat.{ℕ, zero, suc, ◌+◌, ◌*◌, ◌/◌, ◌%◌, ◌^◌, ◌≤◌, ◌<◌}
use native.Mathlib.Nat.{mul-lt-mul_of_pos_right, mul-le-mul_right, mul-le-mul_left, mul-pos, mul_assoc, mul_comm, mul_right_comm, add-mul, zero-mul, le_trans, le_refl, le_of_lt, lt_of_lt_of_le, eq-or-lt_of_le, le_of_suc-le-suc, pow-succ'}
use native.Mathlib.Omega.{arith}
use lib.Dec.{ltb, leb}
use lib.Pow.{pow_pos, pow_mono}
use lib.IntN.{ℤ}
use lib.Signed.{le_z}
use mir.Syntax.{w64}
use mir.Val.{to_z, of_z}
use mir.ValLaws.{to_z-of_z}
use borrow.Author.Tests.{ne_eqb, lt-ltb, le-ltb, le-leb, lt-leb}
use lib.Ieee.{Float, nan, inf, fin, binary64, up, down, of_fields, of_bits, lt, below}
use lib.Ieee.Exact.{HasValue, odd_sign}
use lib.Ieee.Fits.{down_pos}
use Rattle.total_order.specs.Key.{key_of}
use Rattle.total_order.specs.TotalOrder.{total_order, nan_below}
use Rattle.total_order.proofs.Parts.{side}
use Rattle.total_order.proofs.KeyLaws.{size, sign, signed, rank, key_is, key_fits}
use Rattle.total_order.proofs.NanPatterns.{top, is_nan_lem, no_nan}

-- ---- tests on scaled numbers

scaled : (x y c : ℕ) → 0 < c → ltb (x * c) (y * c) ≡ ltb x y
scaled x y c p = ⊎_elim
    (λ (h : x < y). lt-ltb (x * c) (y * c) (mul-lt-mul_of_pos_right h p) ∙ sym (lt-ltb x y h))
    (λ (h : y ≤ x). le-ltb (x * c) (y * c) (mul-le-mul_right c h) ∙ sym (le-ltb x y h))
    (side x y)

-- x and y over one positive K are u and v over one positive D
same_test : (x y u v K D : ℕ) → 0 < K → 0 < D → x * K ≡ u * D → y * K ≡ v * D → ltb x y ≡ ltb u v
same_test x y u v K D p q e f = sym (scaled x y K p) ∙ rw (e, f) (scaled u v D q)

positive_test : (x y u v K D : ℕ) → 0 < K → 0 < D → x * K ≡ u * D → y * K ≡ v * D → ltb 0 (x + y) ≡ ltb 0 (u + v)
positive_test x y u v K D p q e f = same_test 0 (x + y) 0 (u + v) K D p q (rw (zero-mul K, zero-mul D)) (add-mul x y K ∙ rw (e, f) (sym (add-mul u v D)))

below_same : (s t : Bool) (x y u v K D : ℕ) → 0 < K → 0 < D → x * K ≡ u * D → y * K ≡ v * D → below s x t y ≡ below s u t v
below_same false false x y u v K D p q e f = same_test x y u v K D p q e f
below_same false true x y u v K D p q e f = refl
below_same true false x y u v K D p q e f = positive_test x y u v K D p q e f
below_same true true x y u v K D p q e f = same_test y x v u K D p q f e

-- two finite floats of the sizes u / K and v / K
lt_values : (x y : Float) (s t : Bool) (u v K : ℕ) → 0 < K → HasValue x s u K → HasValue y t v K → lt x y ≡ below s u t v
unfolding lt
lt_values nan y s t u v K p a b = absurd a
lt_values (inf i) y s t u v K p a b = absurd a
lt_values (fin i m e) nan s t u v K p a b = absurd b
lt_values (fin i m e) (inf j) s t u v K p a b = absurd b
lt_values (fin i m e) (fin j n d) s t u v K p a b =
    let X : m * up e * down d * K ≡ u * (down e * down d) = mul_right_comm (m * up e) (down d) K ∙ ap (λ (z : ℕ). z * down d) a.1 ∙ mul_assoc u (down e) (down d) in
    let Y : n * up d * down e * K ≡ v * (down e * down d) = mul_right_comm (n * up d) (down e) K ∙ ap (λ (z : ℕ). z * down e) b.1 ∙ mul_assoc v (down d) (down e) ∙ ap (λ (z : ℕ). v * z) (mul_comm (down d) (down e)) in
    below_same i j (m * up e * down d) (n * up d * down e) u v K (down e * down d) p (mul-pos (down_pos e) (down_pos d)) X Y
    ∙ ap (λ (z : Bool). below z u j v) a.0 ∙ ap (λ (z : Bool). below s u z v) b.0

-- ---- the size of a number in units of the least one, 2 ^ -1074, from the exponent's field x and the digits t

unfoldable units_of : ℕ → ℕ → ℕ
units_of zero t = t * 2 ^ 0
units_of (suc k) t = (2 ^ 52 + t) * 2 ^ k

fields_value : (s : Bool) (x t : ℕ) → x < 2047 → HasValue (of_fields binary64 s x t) s (units_of x t) (2 ^ 1074)
unfolding of_fields units_of
fields_value s zero t h = odd_sign 53 s t 0 1074
fields_value s (suc k) t h = rw (ne_eqb (suc k) 2047 (omega arith)) (odd_sign 53 s (2 ^ 52 + t) k 1074)

upper : (x t : ℕ) → t < 2 ^ 52 → units_of x t < 2 ^ 52 * 2 ^ x
unfolding units_of
upper zero t h = omega arith
upper (suc k) t h =
    let l : (2 ^ 52 + t) * 2 ^ k < 2 ^ 53 * 2 ^ k = mul-lt-mul_of_pos_right (omega arith) (pow_pos k) in
    omega (arith, pow-succ' 2 k)

lower : (x y t : ℕ) → x < y → 2 ^ 52 * 2 ^ x ≤ units_of y t
unfolding units_of
lower x zero t h = absurd (none h)
  where
    none : x < 0 → ⊥
    none h = omega arith
lower x (suc k) t h = le_trans (mul-le-mul_left (2 ^ 52) (pow_mono (le_of_suc-le-suc h))) (mul-le-mul_right (2 ^ k) (omega arith))

same_field : (x t u : ℕ) → t < u → units_of x t < units_of x u
unfolding units_of
same_field zero t u h = omega arith
same_field (suc k) t u h = mul-lt-mul_of_pos_right (omega arith) (pow_pos k)

units : ℕ → ℕ
units m = units_of (m / 2 ^ 52) (m % 2 ^ 52)

units_less : (m n : ℕ) → m < n → units m < units n
unfolding units
units_less m n h = ⊎_elim
    (λ (l : m / 2 ^ 52 < n / 2 ^ 52). lt_of_lt_of_le (upper (m / 2 ^ 52) (m % 2 ^ 52) (omega arith)) (lower (m / 2 ^ 52) (n / 2 ^ 52) (n % 2 ^ 52) l))
    (λ (l : n / 2 ^ 52 ≤ m / 2 ^ 52).
    let e : m / 2 ^ 52 ≡ n / 2 ^ 52 = omega arith in
    subst (λ (x : ℕ). units m < units_of x (n % 2 ^ 52)) e (same_field (m / 2 ^ 52) (m % 2 ^ 52) (n % 2 ^ 52) (omega arith)))
    (side (m / 2 ^ 52) (n / 2 ^ 52))

units_test : (m n : ℕ) → ltb (units m) (units n) ≡ ltb m n
units_test m n = ⊎_elim
    (λ (h : m < n). lt-ltb (units m) (units n) (units_less m n h) ∙ sym (lt-ltb m n h))
    (λ (h : n ≤ m). le-ltb (units m) (units n) (⊎_elim (λ (e : n ≡ m). rw e (le_refl (units m))) (λ (l : n < m). le_of_lt (units_less n m l)) (eq-or-lt_of_le h)) ∙ sym (le-ltb m n h))
    (side m n)

none : units 0 ≡ 0
unfolding units units_of
none = refl

at_least : (m : ℕ) → 0 < m → 0 < units m
at_least m h = subst (λ (z : ℕ). z < units m) none (units_less 0 m h)

units_positive : (m n : ℕ) → ltb 0 (units m + units n) ≡ ltb 0 (m + n)
units_positive m n = ⊎_elim
    (λ (h : 0 < m). let l : 0 < units m = at_least m h in lt-ltb 0 (units m + units n) (omega arith) ∙ sym (lt-ltb 0 (m + n) (omega arith)))
    (λ (h : m ≤ 0). ⊎_elim
    (λ (k : 0 < n). let l : 0 < units n = at_least n k in lt-ltb 0 (units m + units n) (omega arith) ∙ sym (lt-ltb 0 (m + n) (omega arith)))
    (λ (k : n ≤ 0).
    let e : m ≡ 0 = omega arith in
    let f : n ≡ 0 = omega arith in
    rw (e, f, none))
    (side 0 n))
    (side 0 m)

below_units : (s t : Bool) (m n : ℕ) → below s (units m) t (units n) ≡ below s m t n
below_units false false m n = units_test m n
below_units false true m n = refl
below_units true false m n = units_positive m n
below_units true true m n = units_test n m

-- ---- patterns

digits_same : (b : ℕ) → b % 2 ^ 63 % 2 ^ 52 ≡ b % 2 ^ 52
digits_same b = omega arith

finite : (b : ℕ) → size b < top → HasValue (of_bits binary64 b) (sign b) (units (size b)) (2 ^ 1074)
unfolding of_bits units
finite b h = rw digits_same (fields_value (sign b) (size b / 2 ^ 52) (b % 2 ^ 52) (omega arith))

infinite : (b : ℕ) → size b ≡ top → of_bits binary64 b ≡ inf (sign b)
unfolding of_bits of_fields
infinite b h =
    let x : size b / 2 ^ 52 ≡ 2047 = omega arith in
    let t : b % 2 ^ 52 ≡ 0 = omega arith in
    rw (x, t)

-- ---- two numbers

-- an infinity against a smaller size, either way, and two infinities
past : (s t : Bool) (m n : ℕ) → n < m → below s m t n ≡ s
past false false m n h = le-ltb m n (le_of_lt h)
past false true m n h = refl
past true false m n h = lt-ltb 0 (m + n) (omega arith)
past true true m n h = lt-ltb n m h

under : (s t : Bool) (m n : ℕ) → m < n → below s m t n ≡ not t
under false false m n h = lt-ltb m n h
under false true m n h = refl
under true false m n h = lt-ltb 0 (m + n) (omega arith)
under true true m n h = le-ltb n m (le_of_lt h)

level : (s t : Bool) (m : ℕ) → 0 < m → below s m t m ≡ s && not t
level false false m h = le-ltb m m (le_refl m)
level false true m h = refl
level true false m h = lt-ltb 0 (m + m) (omega arith)
level true true m h = le-ltb m m (le_refl m)

lt-inf_finite : (y : Float) (s t : Bool) (v K : ℕ) → HasValue y t v K → lt (inf s) y ≡ s
unfolding lt
lt-inf_finite nan s t v K h = absurd h
lt-inf_finite (inf j) s t v K h = absurd h
lt-inf_finite (fin j n d) s t v K h = refl

lt_finite_inf : (x : Float) (s t : Bool) (u K : ℕ) → HasValue x s u K → lt x (inf t) ≡ not t
unfolding lt
lt_finite_inf nan s t u K h = absurd h
lt_finite_inf (inf j) s t u K h = absurd h
lt_finite_inf (fin j n d) s t u K h = refl

lt-inf-inf : (s t : Bool) → lt (inf s) (inf t) ≡ s && not t
unfolding lt
lt-inf-inf s t = refl

-- the order of two numbers' values is that of their signs and sizes
number_lt : (a b : ℕ) → size a ≤ top → size b ≤ top → lt (of_bits binary64 a) (of_bits binary64 b) ≡ below (sign a) (size a) (sign b) (size b)
number_lt a b h k = ⊎_elim
    (λ (e : size a ≡ top). ⊎_elim
    (λ (f : size b ≡ top). rw (infinite a e, infinite b f, e, f) (lt-inf-inf (sign a) (sign b) ∙ sym (level (sign a) (sign b) top (omega arith))))
    (λ (l : size b < top). rw (infinite a e) (lt-inf_finite (of_bits binary64 b) (sign a) (sign b) (units (size b)) (2 ^ 1074) (finite b l) ∙ sym (past (sign a) (sign b) (size a) (size b) (omega arith))))
    (eq-or-lt_of_le k))
    (λ (l : size a < top). ⊎_elim
    (λ (f : size b ≡ top). rw (infinite b f) (lt_finite_inf (of_bits binary64 a) (sign a) (sign b) (units (size a)) (2 ^ 1074) (finite a l) ∙ sym (under (sign a) (sign b) (size a) (size b) (omega arith))))
    (λ (m : size b < top). lt_values (of_bits binary64 a) (of_bits binary64 b) (sign a) (sign b) (units (size a)) (units (size b)) (2 ^ 1074) (pow_pos 1074) (finite a l) (finite b m) ∙ below_units (sign a) (sign b) (size a) (size b))
    (eq-or-lt_of_le k))
    (eq-or-lt_of_le h)

-- ---- the theorem

same-leb : (x y u v : ℕ) → (x ≤ y → u ≤ v) → (y < x → v < u) → leb x y ≡ leb u v
same-leb x y u v f g = ⊎_elim (λ (l : y < x). lt-leb x y l ∙ sym (lt-leb u v (g l))) (λ (l : x ≤ y). le-leb x y l ∙ sym (le-leb u v (f l))) (side y x)

three_ways : (m n : ℕ) → cond (ltb m n) true (cond (ltb n m) false true) ≡ leb m n
three_ways m n = ⊎_elim
    (λ (l : m < n). rw (lt-ltb m n l, le-leb m n (le_of_lt l)))
    (λ (l : n ≤ m). ⊎_elim
    (λ (e : n ≡ m). rw (le-ltb m n l, e, le-ltb m m (le_refl m), le-leb m m (le_refl m)))
    (λ (k : n < m). rw (le-ltb m n l, lt-ltb n m k, lt-leb m n k))
    (eq-or-lt_of_le l))
    (side m n)

either : (b x : Bool) → cond b x x ≡ x
either true x = refl
either false x = refl

numbers : (s t : Bool) (m n : ℕ) → cond (below s m t n) true (cond (below t n s m) false (s || not t)) ≡ le_z (signed s m) (signed t n)
numbers false false m n = three_ways m n
numbers false true m n = either (ltb 0 (n + m)) false
numbers true false m n = either (ltb 0 (m + n)) true
numbers true true m n = three_ways n m

nan_left : (s t : Bool) (m n : ℕ) → n < m → s ≡ le_z (signed s m) (signed t n)
nan_left false false m n h = sym (lt-leb m n h)
nan_left false true m n h = refl
nan_left true false m n h = refl
nan_left true true m n h = sym (le-leb n m (le_of_lt h))

nan_right : (s t : Bool) (m n : ℕ) → m < n → not t ≡ le_z (signed s m) (signed t n)
nan_right false false m n h = sym (le-leb m n (le_of_lt h))
nan_right false true m n h = refl
nan_right true false m n h = refl
nan_right true true m n h = sym (lt-leb n m h)

nans_below : (a b : ℕ) → top < size a → top < size b → nan_below a b ≡ leb (size a) (size b)
nans_below a b h k = ⊎_elim
    (λ (p : a % 2 ^ 52 < 2 ^ 51). ⊎_elim
    (λ (q : b % 2 ^ 52 < 2 ^ 51). rw (lt-leb (2 ^ 51) (a % 2 ^ 52) p, lt-leb (2 ^ 51) (b % 2 ^ 52) q) (same-leb (a % 2 ^ 51) (b % 2 ^ 51) (size a) (size b) (λ l. omega arith) (λ l. omega arith)))
    (λ (q : 2 ^ 51 ≤ b % 2 ^ 52). rw (lt-leb (2 ^ 51) (a % 2 ^ 52) p, le-leb (2 ^ 51) (b % 2 ^ 52) q, le-leb (size a) (size b) (omega arith)))
    (side (b % 2 ^ 52) (2 ^ 51)))
    (λ (p : 2 ^ 51 ≤ a % 2 ^ 52). ⊎_elim
    (λ (q : b % 2 ^ 52 < 2 ^ 51). rw (le-leb (2 ^ 51) (a % 2 ^ 52) p, lt-leb (2 ^ 51) (b % 2 ^ 52) q, lt-leb (size a) (size b) (omega arith)))
    (λ (q : 2 ^ 51 ≤ b % 2 ^ 52). rw (le-leb (2 ^ 51) (a % 2 ^ 52) p, le-leb (2 ^ 51) (b % 2 ^ 52) q) (same-leb (a % 2 ^ 51) (b % 2 ^ 51) (size a) (size b) (λ l. omega arith) (λ l. omega arith)))
    (side (b % 2 ^ 52) (2 ^ 51)))
    (side (a % 2 ^ 52) (2 ^ 51))

nans : (s t : Bool) (m n : ℕ) (x y : Bool) → x ≡ leb n m → y ≡ leb m n → cond s (not t || x) (not t && y) ≡ le_z (signed s m) (signed t n)
nans false false m n x y e f = f
nans false true m n x y e f = refl
nans true false m n x y e f = refl
nans true true m n x y e f = e

-- signed comparison of sizes with their signs is totalOrder
pub rank_orders : (a b : ℕ) → le_z (rank a) (rank b) ≡ total_order a b
unfolding total_order
rank_orders a b = sym (⊎_elim
    (λ (p : top < size a). ⊎_elim
    (λ (q : top < size b). rw (is_nan_lem a p, is_nan_lem b q) (nans (sign a) (sign b) (size a) (size b) (nan_below b a) (nan_below a b) (nans_below b a q p) (nans_below a b p q)))
    (λ (q : size b ≤ top). rw (is_nan_lem a p, no_nan b q) (nan_left (sign a) (sign b) (size a) (size b) (omega arith)))
    (side top (size b)))
    (λ (p : size a ≤ top). ⊎_elim
    (λ (q : top < size b). rw (no_nan a p, is_nan_lem b q) (nan_right (sign a) (sign b) (size a) (size b) (omega arith)))
    (λ (q : size b ≤ top). rw (no_nan a p, no_nan b q, number_lt a b p q, number_lt b a q p) (numbers (sign a) (sign b) (size a) (size b)))
    (side top (size b)))
    (side top (size a)))

-- signed comparison of keys is totalOrder
pub key_orders : (a b : ℕ) → a < 2 ^ 64 → b < 2 ^ 64 → le_z (key_of a) (key_of b) ≡ total_order a b
key_orders a b h k = rw (key_is a h, key_is b k) (rank_orders a b)

-- what a comparison of two keys in the code says of their patterns
pub order_test : (a b : ℕ) (x y : ℤ) (t : Bool) → a < 2 ^ 64 → b < 2 ^ 64 → x ≡ key_of a → y ≡ key_of b → le_z (to_z w64 (of_z w64 x)) (to_z w64 (of_z w64 y)) ≡ t → total_order a b ≡ t
order_test a b x y t h k e f g =
    sym (key_orders a b h k) ∙ rw (to_z-of_z w64 (key_of a) (key_fits a h), to_z-of_z w64 (key_of b) (key_fits b k)) at (rw (e, f) at g)
