-- Integers of 64 bits as differences of numbers, so that `omega` reads what code computes with them. Assumes nothing.
use mathlib.Core.Path.{◌≡◌, refl, ap, ◌∙◌}
use mathlib.Core.Bool.{Bool, true, false}
use mathlib.Core.Logic.{◌⊎◌, inl, inr, ⊎_elim}
use Prim.Native.Nat.{ℕ, zero, suc, ◌+◌, ◌-◌, ◌*◌, ◌/◌, ◌^◌, ◌≤◌, ◌<◌, min}
use native.Mathlib.Omega.{arith}
use lib.IntN.{ℤ, pos, negsuc, neg_ℤ, sub_ℕ, ◌+ℤ◌}
use lib.Dec.{ltb}
use borrow.Author.Tests.{lt-ltb, le-ltb, ltb-true, ltb-false}
use mir.Syntax.{w64}
use mir.Val.{to_z, of_z, SFits}
use mir.ValLaws.{to_z-of_z}

-- one of two sides
pub side : (a b : ℕ) → (a < b) ⊎ (b ≤ a)
side a b = go (ltb a b) refl
  where
    go : (t : Bool) → ltb a b ≡ t → (a < b) ⊎ (b ≤ a)
    go true e = inl (ltb-true a b e)
    go false e = inr (ltb-false a b e)

-- an integer is `over` less `under`, of which one is 0
unfoldable pub over : ℤ → ℕ
over (pos n) = n
over (negsuc n) = 0

unfoldable pub under : ℤ → ℕ
under (pos n) = 0
under (negsuc n) = suc n

by_parts : (x y : ℤ) → over x + under y ≡ under x + over y → x ≡ y
unfolding over under
by_parts (pos a) (pos b) e = ap pos (omega arith)
by_parts (pos a) (negsuc b) e = absurd (omega arith)
by_parts (negsuc a) (pos b) e = absurd (omega arith)
by_parts (negsuc a) (negsuc b) e = ap negsuc (omega arith)

pub same : {x y : ℤ} → over x + under y ≡ under x + over y → x ≡ y
same {x} {y} e = by_parts x y e

within : (z : ℤ) → over z < 2 ^ 63 → under z ≤ 2 ^ 63 → SFits w64 z
unfolding over under
within (pos n) h k = record { sfits = h }
within (negsuc n) h k = record { sfits = omega arith }

pub fits_parts : {z : ℤ} → over z < 2 ^ 63 → under z ≤ 2 ^ 63 → SFits w64 z
fits_parts {z} h k = within z h k

pub over_pos : (n : ℕ) → over (pos n) ≡ n
unfolding over
over_pos n = refl

pub under_pos : (n : ℕ) → under (pos n) ≡ 0
unfolding under
under_pos n = refl

pub over_negsuc : (n : ℕ) → over (negsuc n) ≡ 0
unfolding over
over_negsuc n = refl

pub under_negsuc : (n : ℕ) → under (negsuc n) ≡ suc n
unfolding under
under_negsuc n = refl

pub over-neg : (x : ℤ) → over (neg_ℤ x) ≡ under x
unfolding over under
over-neg (pos zero) = refl
over-neg (pos (suc n)) = refl
over-neg (negsuc n) = refl

pub under-neg : (x : ℤ) → under (neg_ℤ x) ≡ over x
unfolding over under
under-neg (pos zero) = refl
under-neg (pos (suc n)) = refl
under-neg (negsuc n) = refl

-- a - b by its sign
over_less : (a b : ℕ) → over (sub_ℕ a b) ≡ a - b
unfolding over
over_less a b = ⊎_elim (λ (h : a < b). rw (lt-ltb a b h) (omega arith)) (λ (h : b ≤ a). rw (le-ltb a b h)) (side a b)

under_less : (a b : ℕ) → under (sub_ℕ a b) ≡ b - a
unfolding under
under_less a b = ⊎_elim (λ (h : a < b). rw (lt-ltb a b h) (omega arith)) (λ (h : b ≤ a). rw (le-ltb a b h) (omega arith)) (side a b)

pub over_add : (x y : ℤ) → over (x +ℤ y) ≡ over x + over y - (under x + under y)
unfolding over under
over_add (pos a) (pos b) = omega arith
over_add (pos a) (negsuc b) = over_less a (suc b) ∙ omega arith
over_add (negsuc a) (pos b) = over_less b (suc a) ∙ omega arith
over_add (negsuc a) (negsuc b) = omega arith

pub under-add : (x y : ℤ) → under (x +ℤ y) ≡ under x + under y - (over x + over y)
unfolding over under
under-add (pos a) (pos b) = omega arith
under-add (pos a) (negsuc b) = under_less a (suc b) ∙ omega arith
under-add (negsuc a) (pos b) = under_less b (suc a) ∙ omega arith
under-add (negsuc a) (negsuc b) = omega arith

pub over-to : (n : ℕ) → over (to_z w64 n) ≡ n - 2 ^ 64 * (n / 2 ^ 63)
unfolding over
over-to n = ⊎_elim (λ (h : n < 2 ^ 63). rw (lt-ltb n (2 ^ 63) h) (omega arith)) (λ (h : 2 ^ 63 ≤ n). rw (le-ltb n (2 ^ 63) h) (omega arith)) (side n (2 ^ 63))

pub under_to : (n : ℕ) → under (to_z w64 n) ≡ min (2 ^ 64 * (n / 2 ^ 63)) (suc (2 ^ 64 - suc n))
unfolding under
under_to n = ⊎_elim (λ (h : n < 2 ^ 63). rw (lt-ltb n (2 ^ 63) h) (omega arith)) (λ (h : 2 ^ 63 ≤ n). rw (le-ltb n (2 ^ 63) h) (omega arith)) (side n (2 ^ 63))

pub ruleset parts = (over_pos, under_pos, over_negsuc, under_negsuc, over-neg, under-neg, over_add, under-add, over-to, under_to)

-- what fits comes back from its bits
pub read_back : {z y : ℤ} → SFits w64 z → z ≡ y → to_z w64 (of_z w64 z) ≡ y
read_back {z} {y} f e = to_z-of_z w64 z f ∙ e
