-- totalOrder is a total order of the patterns: reflexive, antisymmetric, transitive and total. Assumes nothing.
use mathlib.Core.Path.{◌≡◌, refl, sym, ap, ◌∙◌}
use mathlib.Core.Bool.{Bool, true, false}
use mathlib.Core.Logic.{◌⊎◌, inl, inr}
use Prim.Native.Nat.{ℕ, ◌^◌, ◌<◌}
use native.Mathlib.Omega.{arith}
use lib.IntN.{ℤ, pos, negsuc}
use lib.Signed.{le_z}
use borrow.Author.Tests.{leb-true, leb-false, le-leb}
use Rattle.total_order.specs.Key.{key_of}
use Rattle.total_order.specs.TotalOrder.{total_order}
use Rattle.total_order.proofs.KeyLaws.{rank, key_apart}
use Rattle.total_order.proofs.KeyOrder.{rank_orders, key_orders}

-- ---- signed comparison

le_refl : (x : ℤ) → le_z x x ≡ true
le_refl (pos a) = le-leb a a (omega arith)
le_refl (negsuc a) = le-leb a a (omega arith)

le_antisym : (x y : ℤ) → le_z x y ≡ true → le_z y x ≡ true → x ≡ y
le_antisym (pos a) (pos b) h k = ap pos (omega (arith, leb-true a b h, leb-true b a k))
le_antisym (pos a) (negsuc b) h k = cc
le_antisym (negsuc a) (pos b) h k = cc
le_antisym (negsuc a) (negsuc b) h k = ap negsuc (omega (arith, leb-true b a h, leb-true a b k))

le_trans : (x y z : ℤ) → le_z x y ≡ true → le_z y z ≡ true → le_z x z ≡ true
le_trans (pos a) (pos b) (pos c) h k = le-leb a c (omega (arith, leb-true a b h, leb-true b c k))
le_trans (pos a) (pos b) (negsuc c) h k = k
le_trans (pos a) (negsuc b) z h k = cc
le_trans (negsuc a) y (pos c) h k = refl
le_trans (negsuc a) (pos b) (negsuc c) h k = cc
le_trans (negsuc a) (negsuc b) (negsuc c) h k = le-leb c a (omega (arith, leb-true b a h, leb-true c b k))

-- what is not at most y is above it
le-false : (x y : ℤ) → le_z x y ≡ false → le_z y x ≡ true
le-false (pos a) (pos b) h = le-leb b a (omega (arith, leb-false a b h))
le-false (pos a) (negsuc b) h = refl
le-false (negsuc a) (pos b) h = cc
le-false (negsuc a) (negsuc b) h = le-leb a b (omega (arith, leb-false b a h))

-- ---- totalOrder

pub refl_order : (a : ℕ) → total_order a a ≡ true
refl_order a = sym (rank_orders a a) ∙ le_refl (rank a)

pub trans_order : (a b c : ℕ) → total_order a b ≡ true → total_order b c ≡ true → total_order a c ≡ true
trans_order a b c p q = sym (rank_orders a c) ∙ le_trans (rank a) (rank b) (rank c) (rank_orders a b ∙ p) (rank_orders b c ∙ q)

-- of two patterns that are not in order the other is at most the one
pub other_order : (a b : ℕ) → total_order a b ≡ false → total_order b a ≡ true
other_order a b e = sym (rank_orders b a) ∙ le-false (rank a) (rank b) (rank_orders a b ∙ e)

pub total_order_lem : (a b : ℕ) → (total_order a b ≡ true) ⊎ (total_order b a ≡ true)
total_order_lem a b = go (total_order a b) refl
  where
    go : (t : Bool) → total_order a b ≡ t → (total_order a b ≡ true) ⊎ (total_order b a ≡ true)
    go true e = inl e
    go false e = inr (other_order a b e)

pub antisym_order : (a b : ℕ) → a < 2 ^ 64 → b < 2 ^ 64 → total_order a b ≡ true → total_order b a ≡ true → a ≡ b
antisym_order a b h k p q = key_apart a b h k (le_antisym (key_of a) (key_of b) (key_orders a b h k ∙ p) (key_orders b a k h ∙ q))
