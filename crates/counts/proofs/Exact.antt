-- An accepted push or merge of whole counts is exact, where the sum is not below -2^53: there numbers are as coarse as above 2^53, and document 02 refuses nothing. A refused push
-- would not be exact, and a merge is refused exactly if one of as many pushes would be. Assumes nothing.
use Prim.Native.Nat.{ℕ, zero, suc, ◌+◌, ◌*◌, ◌^◌, ◌≤◌, ◌<◌}
use mathlib.Core.Path.{◌≡◌, refl, sym, ap, ◌∙◌}
use mathlib.Core.Bool.{Bool, true, false, ◌||◌}
use native.Mathlib.Omega.{arith}
use native.Mathlib.Nat.{mul-one, mul-lt-mul_of_pos_right}
use lib.IntN.{ℤ, pos, negsuc, nat_abs, ◌+ℤ◌}
use lib.Dec.{T, ltb, leb}
use lib.Ieee.{Float, nan, inf, fin, binary64, up, down, add, fits}
use lib.Ieee.Fits.{add-fits, down_pos}
use borrow.Author.Tests.{ltb-true, ltb-false, leb-true, leb-false, lt-ltb, le-ltb}
use Rattle.counts.specs.Whole.{float_of, Whole, NotBelow}
use Rattle.counts.specs.Saturation.{MOST, at_least, above, push_saturates, merge_saturates}
use Rattle.counts.specs.Pushes.{some_push_saturates}
use Rattle.counts.proofs.Whole.{whole_sum, float_whole, signed-size}
use Rattle.counts.proofs.Laws.{push_whole, merge_whole}
use Rattle.counts.proofs.Tests.{even}

small : (z : ℤ) → above MOST z ≡ false → NotBelow z → nat_abs z ≤ 2 ^ 53
small (pos n) h l = ltb-false MOST n h
small (negsuc n) h l = l

-- ---- an accepted merge: the new count is the sum of the two
pub merge_exact : (x y : Float) (z w : ℤ) → Whole x z → Whole y w → NotBelow (z +ℤ w) → merge_saturates x y ≡ false → Whole (add binary64 x y) (z +ℤ w)
merge_exact x y z w u v l h = whole_sum x y z w u v (small (z +ℤ w) (sym (merge_whole x y z w u v) ∙ h) l)

-- ---- a push is the merge of one point
one_more : (z : ℤ) → at_least MOST z ≡ above MOST (z +ℤ pos 1)
one_more (pos n) = go (leb MOST n) refl
  where
    go : (t : Bool) → leb MOST n ≡ t → t ≡ ltb MOST (n + 1)
    go true p = let h = leb-true MOST n p in sym (lt-ltb MOST (n + 1) (omega arith))
    go false p = let h = leb-false MOST n p in sym (le-ltb MOST (n + 1) (omega arith))
one_more (negsuc zero) = refl
one_more (negsuc (suc n)) = rw (lt-ltb 1 (suc (suc n)) (omega arith))

one_whole : Whole (float_of (pos 1)) (pos 1)
one_whole = float_whole (pos 1) (omega arith)

pub push_merge : (x : Float) (z : ℤ) → Whole x z → push_saturates x ≡ merge_saturates x (float_of (pos 1))
push_merge x z u = push_whole x z u ∙ one_more z ∙ sym (merge_whole x (float_of (pos 1)) z (pos 1) u one_whole)

-- an accepted push: the new count is one more
pub push_exact : (x : Float) (z : ℤ) → Whole x z → NotBelow (z +ℤ pos 1) → push_saturates x ≡ false → Whole (add binary64 x (float_of (pos 1))) (z +ℤ pos 1)
push_exact x z u l h = merge_exact x (float_of (pos 1)) z (pos 1) u one_whole l (sym (push_merge x z u) ∙ h)

-- ---- a refused push: the new count would not be one more, since from 2^53 on all numbers of the format are even
half_of : (x : Float) (n : ℕ) → T (fits binary64 x) → Whole x (pos n) → MOST ≤ n → (k : ℕ) × (n ≡ 2 * k)
half_of nan n f (s, a, h, e) l = absurd h
half_of (inf r) n f (s, a, h, e) l = absurd h
half_of (fin r m d) n f (s, a, h, e) l = go (ltb MOST n) refl
  where
    size : a ≡ n
    size = sym (signed-size s a) ∙ ap nat_abs e

    value : m * up d ≡ n * down d
    value = sym (mul-one (m * up d)) ∙ h.1 ∙ rw size

    go : (b : Bool) → ltb MOST n ≡ b → (k : ℕ) × (n ≡ 2 * k)
    go false p = (2 ^ 52, omega (arith, ltb-false MOST n p))
    go true p =
        let g : MOST < n = ltb-true MOST n p in
        let w = even r m d f (rw value (mul-lt-mul_of_pos_right g (down_pos d))) in
        (w.0, sym (mul-one n) ∙ ap (λ (k : ℕ). n * k) (sym w.2) ∙ sym value ∙ w.1)

pub push_wrong : (x : Float) (n : ℕ) → T (fits binary64 x) → Whole x (pos n) → push_saturates x ≡ true → Whole (add binary64 x (float_of (pos 1))) (pos (n + 1)) → ⊥
push_wrong x n f u h v =
    let l : MOST ≤ n = leb-true MOST n (sym (push_whole x (pos n) u) ∙ h) in
    let a = half_of x n f u l in
    let b = half_of (add binary64 x (float_of (pos 1))) (n + 1) (add-fits binary64 x (float_of (pos 1))) v (omega arith) in
    omega (arith, a.1, b.1)

-- ---- k pushes in a row: as long as none is refused, the counts are n, n + 1 and so on
some_push : (k n : ℕ) (x : Float) → Whole x (pos n) → n ≤ MOST → some_push_saturates k x ≡ ltb MOST (n + k)
unfolding some_push_saturates
some_push zero n x w l = sym (le-ltb MOST (n + 0) (omega arith))
some_push (suc k) n x w l = go (leb MOST n) refl (λ v h. some_push k (n + 1) (add binary64 x (float_of (pos 1))) v h)
  where
    is : push_saturates x ≡ leb MOST n
    is = push_whole x (pos n) w

    next : Float
    next = add binary64 x (float_of (pos 1))

    go : (b : Bool) → leb MOST n ≡ b → (Whole next (pos (n + 1)) → n + 1 ≤ MOST → some_push_saturates k next ≡ ltb MOST (n + 1 + k)) → (push_saturates x || some_push_saturates k next) ≡ ltb MOST (n + suc k)
    go true p later = let h = leb-true MOST n p in rw (is ∙ p) (sym (lt-ltb MOST (n + suc k) (omega arith)))
    go false p later =
        let h = leb-false MOST n p in
        let e : n + 1 + k ≡ n + suc k = omega arith in
        rw (is ∙ p) (later (push_exact x (pos n) w tt (is ∙ p)) (omega arith) ∙ ap (ltb MOST) e)

-- merging k points into a set of at most 2^53 is refused exactly if one of k pushes is
pub merge_pushes : (x y : Float) (n k : ℕ) → Whole x (pos n) → Whole y (pos k) → n ≤ MOST → merge_saturates x y ≡ some_push_saturates k x
merge_pushes x y n k u v l = merge_whole x y (pos n) (pos k) u v ∙ sym (some_push k n x u l)
