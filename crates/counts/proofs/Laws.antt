-- Laws of saturation for callers: the order of two counts is free, and of whole counts the tests are those of the whole numbers. Assumes nothing.
use Prim.Native.Nat.{ℕ, ◌+◌, ◌*◌, ◌<◌}
use mathlib.Core.Path.{◌≡◌, refl, sym, ◌∙◌}
use mathlib.Core.Bool.{Bool, true, false}
use native.Mathlib.Omega.{arith}
use native.Mathlib.Nat.{add-mul, mul_comm, mul-one, mul-pos, mul-le-mul_right, mul-lt-mul_of_pos_right}
use lib.IntN.{ℤ, ◌+ℤ◌, +ℤ_comm}
use lib.Dec.{leb}
use lib.Ieee.{Float, nan, inf, fin, up, down}
use lib.Ieee.Fits.{down_pos}
use borrow.Author.Tests.{leb-true, leb-false, lt-leb, le-leb}
use Rattle.counts.specs.Whole.{signed, Whole}
use Rattle.counts.specs.Saturation.{MOST, at_least, above, push_saturates, merge_saturates}
use Rattle.counts.proofs.Whole.{ltb-scaled, over-both}
use Rattle.counts.proofs.Signs.{sum_above, above-sum, negative-least}

-- ---- the order of two counts
pub merge_comm : (a b : Float) → merge_saturates a b ≡ merge_saturates b a
unfolding merge_saturates
merge_comm nan nan = refl
merge_comm nan (inf t) = refl
merge_comm nan (fin t n d) = refl
merge_comm (inf s) nan = refl
merge_comm (inf true) (inf true) = refl
merge_comm (inf true) (inf false) = refl
merge_comm (inf false) (inf true) = refl
merge_comm (inf false) (inf false) = refl
merge_comm (inf s) (fin t n d) = refl
merge_comm (fin s m e) nan = refl
merge_comm (fin s m e) (inf t) = refl
merge_comm (fin s m e) (fin t n d) =
    rw (mul_comm (down e) (down d), +ℤ_comm (signed s (m * up e * down d)) (signed t (n * up d * down e)))

-- ---- whole counts: the denominators go
leb-scaled : (a b k : ℕ) → 0 < k → leb (a * k) (b * k) ≡ leb a b
leb-scaled a b k h = go (leb a b) refl
  where
    go : (t : Bool) → leb a b ≡ t → leb (a * k) (b * k) ≡ t
    go true p = le-leb (a * k) (b * k) (mul-le-mul_right k (leb-true a b p))
    go false p = lt-leb (a * k) (b * k) (mul-lt-mul_of_pos_right (leb-false a b p) h)

least-scaled : (l : ℕ) (s : Bool) (n k : ℕ) → 0 < l → 0 < k → at_least (l * k) (signed s (n * k)) ≡ at_least l (signed s n)
least-scaled l false n k h g = leb-scaled l n k g
least-scaled l true n k h g = negative-least (l * k) (n * k) (mul-pos h g) ∙ sym (negative-least l n h)

above-scaled : (s : Bool) (a : ℕ) (t : Bool) (b l k : ℕ) → 0 < k → sum_above s (a * k) t (b * k) (l * k) ≡ sum_above s a t b l
above-scaled false a false b l k h = rw (← add-mul a b k) (ltb-scaled l (a + b) k h)
above-scaled false a true b l k h = rw (← add-mul b l k) (ltb-scaled (b + l) a k h)
above-scaled true a false b l k h = rw (← add-mul a l k) (ltb-scaled (a + l) b k h)
above-scaled true a true b l k h = refl

pub push_whole : (x : Float) (z : ℤ) → Whole x z → push_saturates x ≡ at_least MOST z
unfolding push_saturates
push_whole nan z (s, n, h, e) = absurd h
push_whole (inf r) z (s, n, h, e) = absurd h
push_whole (fin r m d) z (s, n, h, e) =
    let p : m * up d ≡ n * down d = sym (mul-one (m * up d)) ∙ h.1 in
    rw (← e, p, h.0) (least-scaled MOST s n (down d) (omega arith) (down_pos d))

pub merge_whole : (x y : Float) (z w : ℤ) → Whole x z → Whole y w → merge_saturates x y ≡ above MOST (z +ℤ w)
unfolding merge_saturates
merge_whole nan y z w (s, a, h, p) v = absurd h
merge_whole (inf r) y z w (s, a, h, p) v = absurd h
merge_whole (fin r m e) nan z w u (t, b, k, q) = absurd k
merge_whole (fin r m e) (inf o) z w u (t, b, k, q) = absurd k
merge_whole (fin r m e) (fin o n d) z w (s, a, h, p) (t, b, k, q) =
    let c = down e * down d in
    rw (over-both m e (down d) a h.1, over-both n d (down e) b k.1, mul_comm (down d) (down e), h.0, k.0, ← p, ← q)
    (above-sum s (a * c) t (b * c) (MOST * c) ∙ above-scaled s a t b MOST c (mul-pos (down_pos e) (down_pos d)) ∙ sym (above-sum s a t b MOST))
