-- The order of three: what each outcome of the three comparisons gives, and that the places rise. Assumes nothing.
use mathlib.Core.Path.{◌≡◌, refl, sym, ap, ◌∙◌}
use mathlib.Core.Bool.{Bool, true, false, not, ◌&&◌, ◌||◌}
use Prim.Native.Nat.{ℕ, ◌<◌}
use native.Mathlib.Nat.{le_of_lt}
use native.Mathlib.Omega.{arith}
use borrow.Author.Tests.{lt-ltb, le-ltb}
use Rattle.total_order.specs.TotalOrder.{total_order}
use Rattle.total_order.specs.Three.{pattern_at, before, order_by, order_of, Rises}
use Rattle.total_order.proofs.OrderLaws.{refl_order, trans_order, other_order}

-- ---- before, between a lesser place and a greater one

-- what `before` says where the test of the places is true, and where it is false: t is that one pattern is at most the other, u that the other is at most it
at_most : (t u w : Bool) → w ≡ true → (t ≡ false → u ≡ true) → not u || (t && w) ≡ t
at_most true true w e h = e
at_most true false w e h = refl
at_most false true w e h = refl
at_most false false w e h = sym (h refl)

below : (t u w : Bool) → w ≡ false → not u || (t && w) ≡ not u
below true true w e = e
below true false w e = refl
below false true w e = refl
below false false w e = refl

module _ (at : ℕ → ℕ) where
  rising : (i j : ℕ) → i < j → before at i j ≡ total_order (at i) (at j)
  unfolding before
  rising i j h = at_most (total_order (at i) (at j)) (total_order (at j) (at i)) _ (search lt-ltb) (other_order (at i) (at j))

  falling : (i j : ℕ) → j < i → before at i j ≡ not (total_order (at j) (at i))
  unfolding before
  falling i j h = below (total_order (at i) (at j)) (total_order (at j) (at i)) _ (search (le-ltb, le_of_lt))

  -- ---- the six outcomes of comparing the patterns

  pub order_012 : total_order (at 0) (at 1) ≡ true → total_order (at 1) (at 2) ≡ true → order_by at ≡ record { first = 0; second = 1; third = 2 }
  order_012 p q =
      rw (rising 0 1 (omega arith) ∙ p, rising 0 2 (omega arith) ∙ trans_order (at 0) (at 1) (at 2) p q, rising 1 2 (omega arith) ∙ q)

  pub order_021 : total_order (at 0) (at 1) ≡ true → total_order (at 1) (at 2) ≡ false → total_order (at 0) (at 2) ≡ true → order_by at ≡ record { first = 0; second = 2; third = 1 }
  order_021 p q s = rw (rising 0 1 (omega arith) ∙ p, rising 0 2 (omega arith) ∙ s, rising 1 2 (omega arith) ∙ q)

  pub order_201 : total_order (at 0) (at 1) ≡ true → total_order (at 0) (at 2) ≡ false → order_by at ≡ record { first = 2; second = 0; third = 1 }
  order_201 p s = rw (rising 0 1 (omega arith) ∙ p, rising 0 2 (omega arith) ∙ s, rising 0 1 (omega arith) ∙ p)

  pub order_102 : total_order (at 0) (at 1) ≡ false → total_order (at 0) (at 2) ≡ true → order_by at ≡ record { first = 1; second = 0; third = 2 }
  order_102 p s =
      let q = trans_order (at 1) (at 0) (at 2) (other_order (at 0) (at 1) p) s in
      rw (rising 0 1 (omega arith) ∙ p, rising 1 2 (omega arith) ∙ q, rising 0 2 (omega arith) ∙ s)

  pub order_120 : total_order (at 0) (at 1) ≡ false → total_order (at 0) (at 2) ≡ false → total_order (at 1) (at 2) ≡ true → order_by at ≡ record { first = 1; second = 2; third = 0 }
  order_120 p s q = rw (rising 0 1 (omega arith) ∙ p, rising 1 2 (omega arith) ∙ q, rising 0 2 (omega arith) ∙ s)

  pub order_210 : total_order (at 0) (at 1) ≡ false → total_order (at 1) (at 2) ≡ false → order_by at ≡ record { first = 2; second = 1; third = 0 }
  order_210 p q = rw (rising 0 1 (omega arith) ∙ p, rising 1 2 (omega arith) ∙ q, rising 0 1 (omega arith) ∙ p)

  -- ---- the places rise

  irrefl : (i : ℕ) → before at i i ≡ true → ⊥
  unfolding before
  irrefl i h =
      let e : before at i i ≡ false = rw (le-ltb i i (omega arith), refl_order (at i)) in
      let q : ◌≡◌ {A = ℕ} 0 1 = cc in
      omega arith

  distinct : (i j : ℕ) → before at i j ≡ true → i ≡ j → ⊥
  distinct i j h e = irrefl i (rw (← e) at h)

  placed : (i j l : ℕ) → i < 3 → j < 3 → l < 3 → before at i j ≡ true → before at j l ≡ true → before at i l ≡ true → Rises at (record { first = i; second = j; third = l })
  placed i j l a b c u v w = record {
    first_below = a;
    second_below = b;
    third_below = c;
    first-second = u;
    second-third = v;
    first-third = w;
    apart = (distinct i j u, distinct j l v, distinct i l w);
  }

  pub order_rises : Rises at (order_by at)
  order_rises = go (total_order (at 0) (at 1)) (total_order (at 1) (at 2)) (total_order (at 0) (at 2)) refl refl refl
    where
      up : (i j : ℕ) → i < j → total_order (at i) (at j) ≡ true → before at i j ≡ true
      up i j h e = rising i j h ∙ e

      down : (i j : ℕ) → j < i → total_order (at j) (at i) ≡ false → before at i j ≡ true
      down i j h e = falling i j h ∙ ap not e

      go : (p q s : Bool) → total_order (at 0) (at 1) ≡ p → total_order (at 1) (at 2) ≡ q → total_order (at 0) (at 2) ≡ s → Rises at (order_by at)
      go true true s p q e =
          rw (order_012 p q) (placed 0 1 2 (omega arith) (omega arith) (omega arith) (up 0 1 (omega arith) p) (up 1 2 (omega arith) q) (up 0 2 (omega arith) (trans_order (at 0) (at 1) (at 2) p q)))
      go true false true p q s =
          rw (order_021 p q s) (placed 0 2 1 (omega arith) (omega arith) (omega arith) (up 0 2 (omega arith) s) (down 2 1 (omega arith) q) (up 0 1 (omega arith) p))
      go true false false p q s =
          rw (order_201 p s) (placed 2 0 1 (omega arith) (omega arith) (omega arith) (down 2 0 (omega arith) s) (up 0 1 (omega arith) p) (down 2 1 (omega arith) q))
      go false q true p e s =
          rw (order_102 p s) (placed 1 0 2 (omega arith) (omega arith) (omega arith) (down 1 0 (omega arith) p) (up 0 2 (omega arith) s) (up 1 2 (omega arith) (trans_order (at 1) (at 0) (at 2) (other_order (at 0) (at 1) p) s)))
      go false true false p q s =
          rw (order_120 p s q) (placed 1 2 0 (omega arith) (omega arith) (omega arith) (up 1 2 (omega arith) q) (down 2 0 (omega arith) s) (down 1 0 (omega arith) p))
      go false false false p q s =
          rw (order_210 p q) (placed 2 1 0 (omega arith) (omega arith) (omega arith) (down 2 1 (omega arith) q) (down 1 0 (omega arith) p) (down 2 0 (omega arith) s))

-- of three patterns
pub of_three : (a b c : ℕ) → Rises (pattern_at a b c) (order_of a b c)
unfolding order_of
of_three a b c = order_rises (pattern_at a b c)
