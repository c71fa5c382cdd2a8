-- From numbers to values: where the root of x, in units of the format's smallest value, is rounded to r (`Nearby`), r is nearer to √x than every other value of the format (`Nearer`). Assumes nothing.
use Rattle.std.proofs.Common.{◌≡◌, ℕ, zero, suc, ◌+◌, ◌-◌, ◌*◌, ◌%◌, ◌^◌, ◌<◌, ◌≤◌, Bool, true, false, ◌&&◌, T, eqb, ltb, leb, ℤ, pos, negsuc, sym, refl, ap, ◌∙◌, subst, le_of_eq, lt_of_lt_of_le, le_of_suc-le-suc, lt_of_le_of_lt, lt_irrefl, mul-le-mul_right, mul_assoc, mul_comm, add-mul, mul-le-mul, lt_of_mul-lt-mul_right, mul-lt-mul_of_pos_right, mul-pos, lt_of_not-le, zero-mul, mul-one, mul_right_comm, mul_left_comm, arith, ltb→lt, leb→le, pow_pos, pow-add}
use lib.Pow.{pow-lt}
use lib.Ieee.{Float, nan, inf, fin, Format, prec, emax, low, up, down, fits, lt}
use lib.Ieee.Digits.{back}
use lib.Ieee.Fits.{and_l, and_r, two, two-le_pos, down_pos}
use lib.Ieee.Exact.{HasValue}
use lib.Ieee.Scale.{finite}
use lib.Ieee.Positive.{num, den, den_pos, positive, value→cross, positive_of_value}
use Rattle.square_root.specs.SquareRoot.{sum_squared, four_times}
use Rattle.square_root.proofs.Gap.{Nearby, mean-above, mean_below}

-- ---- a value that fits is q * 2 ^ j units, with q of no more digits than the format keeps
pow_le_back : (a l : ℕ) → 2 ^ a ≤ 2 ^ l → a ≤ l
pow_le_back a l h = le_of_suc-le-suc (lt_of_not-le (λ (g : suc l ≤ a). lt_irrefl (2 ^ l) (lt_of_lt_of_le (pow-lt g) h)))

exponent : (l m : ℕ) (e : ℤ) → down e ≤ 2 ^ l → (j : ℕ) × (m * up e * 2 ^ l ≡ m * 2 ^ j * down e)
exponent l m (pos a) h = (a + l, mul_assoc m (2 ^ a) (2 ^ l) ∙ ap (λ (x : ℕ). m * x) (sym (pow-add 2 a l)) ∙ sym (mul-one (m * 2 ^ (a + l))))
exponent l m (negsuc a) h =
    let g : suc a ≤ l = pow_le_back (suc a) l h in
    (l - suc a, ap (λ (x : ℕ). x * 2 ^ l) (mul-one m) ∙ ap (λ (x : ℕ). m * x) (ap (λ (x : ℕ). 2 ^ x) (sym (back l (suc a) g)) ∙ pow-add 2 (l - suc a) (suc a)) ∙ sym (mul_assoc m (2 ^ (l - suc a)) (2 ^ suc a)))

pub on_grid : (f : Format) (s : Bool) (m : ℕ) (e : ℤ) → T (fits f (fin s m e)) → (q : ℕ) × (j : ℕ) × (q < 2 ^ prec f) × (m * up e * 2 ^ low f ≡ q * 2 ^ j * down e)
unfolding fits
on_grid f s zero e t = (0, 0, pow_pos (prec f), ap (λ (x : ℕ). x * 2 ^ low f) (zero-mul (up e)) ∙ zero-mul (2 ^ low f) ∙ sym (zero-mul (down e)))
on_grid f s (suc m) e t =
    let A = eqb (suc m % 2) 1 in
    let B = ltb (suc m) (2 ^ prec f) in
    let C = leb (down e) (2 ^ low f) in
    let D = ltb (suc m * up e) (2 ^ suc (emax f) * down e) in
    let z = exponent (low f) (suc m) e (leb→le (down e) (2 ^ low f) (and_r (A && B) C (and_l (A && B && C) D t))) in
    (suc m, z.0, ltb→lt (suc m) (2 ^ prec f) (and_r A B (and_l (A && B) C (and_l (A && B && C) D t))), z.1)

-- ---- the order of two values, as one of fractions
lt-left : (r : Float) (n : ℕ) (d : ℤ) → T (positive r) → T (lt (fin false n d) r) → n * up d * den r < num r * down d
unfolding lt
lt-left nan n d p h = absurd p
lt-left (inf s) n d p h = absurd p
lt-left (fin true m e) n d p h = absurd p
lt-left (fin false m e) n d p h = ltb→lt (n * up d * down e) (m * up e * down d) h

lt_right : (r : Float) (n : ℕ) (d : ℤ) → T (positive r) → T (lt r (fin false n d)) → num r * down d < n * up d * den r
unfolding lt
lt_right nan n d p h = absurd p
lt_right (inf s) n d p h = absurd p
lt_right (fin true m e) n d p h = absurd p
lt_right (fin false m e) n d p h = ltb→lt (m * up e * down d) (n * up d * down e) h

not-under : (r : Float) (n : ℕ) (d : ℤ) → T (positive r) → T (lt r (fin true n d)) → ⊥
unfolding lt
not-under nan n d p h = p
not-under (inf s) n d p h = p
not-under (fin true m e) n d p h = p
not-under (fin false m e) n d p h = h

-- ---- from units to fractions: t / c is z units, and n / d is x units, a unit being 1 / v
pub squared : (t z c d v : ℕ) → t * v ≡ z * c → t * t * d * (v * v) ≡ z * z * (c * c * d)
squared t z c d v e = one ∙ (λ i. e i * e i * d) ∙ three
  where
    one : t * t * d * (v * v) ≡ t * v * (t * v) * d
    one = simp (mul_assoc, mul_comm, mul_left_comm) refl

    three : z * c * (z * c) * d ≡ z * z * (c * c * d)
    three = simp (mul_assoc, mul_comm, mul_left_comm) refl

module _ (t z c n x d v : ℕ) (vp : 0 < v) (C : 0 < c) (D : 0 < d) (et : t * v ≡ z * c) (en : n * v ≡ x * d) where
  right : 4 * n * (c * c) * (v * v) ≡ 4 * (x * v) * (c * c * d)
  right = one ∙ ap (λ (y : ℕ). 4 * (y * v) * (c * c)) en ∙ three
    where
      one : 4 * n * (c * c) * (v * v) ≡ 4 * (n * v * v) * (c * c)
      one = simp (mul_assoc, mul_comm, mul_left_comm) refl

      three : 4 * (x * d * v) * (c * c) ≡ 4 * (x * v) * (c * c * d)
      three = simp (mul_assoc, mul_comm, mul_left_comm) refl

  scale_below : z * z < 4 * (x * v) → t * t * d < 4 * n * (c * c)
  scale_below h = lt_of_mul-lt-mul_right (v * v) (lt_of_le_of_lt (le_of_eq (squared t z c d v et)) (lt_of_lt_of_le (mul-lt-mul_of_pos_right h (mul-pos (mul-pos C C) D)) (le_of_eq (sym right))))

  scale_above : 4 * (x * v) < z * z → 4 * n * (c * c) < t * t * d
  scale_above h = lt_of_mul-lt-mul_right (v * v) (lt_of_le_of_lt (le_of_eq right) (lt_of_lt_of_le (mul-lt-mul_of_pos_right h (mul-pos (mul-pos C C) D)) (le_of_eq (sym (squared t z c d v et)))))

-- a / b is y units: so a * c / (b * c) is too
widen : (a b c v y : ℕ) → a * v ≡ y * b → a * c * v ≡ y * (b * c)
widen a b c v y e = mul_right_comm a c v ∙ ap (λ (x : ℕ). x * c) e ∙ mul_assoc y b c

-- the sum of two fractions, and their order, is that of their numbers of units
pub sum_units : (a b a' b' v y y' : ℕ) → a * v ≡ y * b → a' * v ≡ y' * b' → (a * b' + a' * b) * v ≡ (y + y') * (b * b')
sum_units a b a' b' v y y' e e' =
    add-mul (a * b') (a' * b) v
    ∙ (λ i. widen a b b' v y e i + (widen a' b' b v y' e' ∙ ap (λ (z : ℕ). y' * z) (mul_comm b' b)) i)
    ∙ sym (add-mul y y' (b * b'))

pub lt_of_units : (a b a' b' v y y' : ℕ) → 0 < b → 0 < b' → a * v ≡ y * b → a' * v ≡ y' * b' → y < y' → a * b' < a' * b
lt_of_units a b a' b' v y y' B B' e e' h =
    lt_of_mul-lt-mul_right v
    (lt_of_le_of_lt (le_of_eq (widen a b b' v y e))
    (lt_of_lt_of_le (mul-lt-mul_of_pos_right h (mul-pos B B')) (le_of_eq (sym (widen a' b' b v y' e' ∙ ap (λ (x : ℕ). y' * x) (mul_comm b' b))))))

pub units_lt : (a b a' b' v y y' : ℕ) → 0 < v → a * v ≡ y * b → a' * v ≡ y' * b' → a * b' < a' * b → y < y'
units_lt a b a' b' v y y' vp e e' h =
    lt_of_mul-lt-mul_right (b * b')
    (lt_of_le_of_lt (le_of_eq (sym (widen a b b' v y e)))
    (lt_of_lt_of_le (mul-lt-mul_of_pos_right h vp) (le_of_eq (widen a' b' b v y' e' ∙ ap (λ (x : ℕ). y' * x) (mul_comm b' b)))))

-- r is nearer to √x than every other finite value of the format
pub record Nearer (f : Format) (x r : Float) : Type 0 where
  pub held : T (fits f r)
  pub above_zero : T (positive r)
  pub from_below : (y : Float) → T (fits f y) → T (finite y) → T (lt y r) → sum_squared x r y < four_times x r y
  pub from_above : (y : Float) → T (fits f y) → T (finite y) → T (lt r y) → four_times x r y < sum_squared x r y

-- ---- the law
module _ (f : Format) (x r : Float) (n k q : ℕ) (vx : HasValue x false n (2 ^ low f)) (vr : HasValue r false (q * 2 ^ k) (2 ^ low f)) (w : Nearby (prec f - 1) (n * 2 ^ low f) k q) where
  vp : 0 < 2 ^ low f
  vp = pow_pos (low f)

  above : T (positive r)
  above = positive_of_value r (q * 2 ^ k) (2 ^ low f) vr (mul-pos w.some (pow_pos k))

  digits_of : (y : ℕ) → y < 2 ^ prec f → y < 2 ^ suc (prec f - 1)
  digits_of y h = subst (λ (p : ℕ). y < 2 ^ p) (sym (suc_pred (prec f) (two-le_pos (prec f) (two f)))) h
    where
      suc_pred : (p : ℕ) → 0 < p → suc (p - 1) ≡ p
      suc_pred p h = omega arith

  below_from : (m : ℕ) (d : ℤ) (p j : ℕ) → p < 2 ^ prec f → m * up d * 2 ^ low f ≡ p * 2 ^ j * down d → p * 2 ^ j < q * 2 ^ k
      → (num r * down d + m * up d * den r) * (num r * down d + m * up d * den r) * den x < 4 * num x * (den r * down d * (den r * down d))
  below_from m d p j small e h =
      scale_below (num r * down d + m * up d * den r) (q * 2 ^ k + p * 2 ^ j) (den r * down d) (num x) n (den x) (2 ^ low f) vp (mul-pos (den_pos r) (down_pos d)) (den_pos x)
      (sum_units (num r) (den r) (m * up d) (down d) (2 ^ low f) (q * 2 ^ k) (p * 2 ^ j) (value→cross r (q * 2 ^ k) (2 ^ low f) vr) e) (value→cross x n (2 ^ low f) vx)
      (mean_below (prec f - 1) (n * 2 ^ low f) k q w p j (digits_of p small) h)

  from_below : (y : Float) → T (fits f y) → T (finite y) → T (lt y r) → sum_squared x r y < four_times x r y
  from_below nan fy g h = absurd g
  from_below (inf s) fy g h = absurd g
  from_below (fin false m d) fy g h =
      let z = on_grid f false m d fy in
      below_from m d z.0 z.1 z.2 z.3
      (units_lt (m * up d) (down d) (num r) (den r) (2 ^ low f) (z.0 * 2 ^ z.1) (q * 2 ^ k) vp z.3 (value→cross r (q * 2 ^ k) (2 ^ low f) vr) (lt-left r m d above h))
  from_below (fin true m d) fy g h =
      let t = num r * down d - m * up d * den r in
      let u = num r * down d + 0 * up d * den r in
      let l : t ≤ u = under (num r * down d) (m * up d * den r) (0 * up d * den r) in
      lt_of_le_of_lt (mul-le-mul_right (den x) (mul-le-mul l l))
      (below_from 0 d 0 0 (pow_pos (prec f)) (ap (λ (z : ℕ). z * 2 ^ low f) (zero-mul (up d)) ∙ zero-mul (2 ^ low f) ∙ sym (zero-mul (down d))) (mul-pos w.some (pow_pos k)))
    where
      under : (b c e : ℕ) → b - c ≤ b + e
      under b c e = omega arith

  from_above : (y : Float) → T (fits f y) → T (finite y) → T (lt r y) → four_times x r y < sum_squared x r y
  from_above nan fy g h = absurd g
  from_above (inf s) fy g h = absurd g
  from_above (fin true m d) fy g h = absurd (not-under r m d above h)
  from_above (fin false m d) fy g h =
      let z = on_grid f false m d fy in
      scale_above (num r * down d + m * up d * den r) (q * 2 ^ k + z.0 * 2 ^ z.1) (den r * down d) (num x) n (den x) (2 ^ low f) vp (mul-pos (den_pos r) (down_pos d)) (den_pos x)
      (sum_units (num r) (den r) (m * up d) (down d) (2 ^ low f) (q * 2 ^ k) (z.0 * 2 ^ z.1) (value→cross r (q * 2 ^ k) (2 ^ low f) vr) z.3) (value→cross x n (2 ^ low f) vx)
      (mean-above (prec f - 1) (n * 2 ^ low f) k q w z.0 z.1 (digits_of z.0 z.2)
      (units_lt (num r) (den r) (m * up d) (down d) (2 ^ low f) (q * 2 ^ k) (z.0 * 2 ^ z.1) vp (value→cross r (q * 2 ^ k) (2 ^ low f) vr) z.3 (lt_right r m d above h)))

  pub nearer : T (fits f r) → Nearer f x r
  nearer h = record { held = h; above_zero = above; from_below = from_below; from_above = from_above }
