-- Totals over a list of whole-number points: of two lists together, in any order, and how large they get. Assumes nothing.
use Prim.Native.Nat.{ℕ, suc, ◌+◌, ◌-◌, ◌*◌, ◌≤◌}
use mathlib.Core.Path.{◌≡◌, refl, sym, ap, ap₂, ◌∙◌}
use mathlib.Core.Bool.{Bool, true, false, cond}
use mathlib.Core.List.{List, [], ◌∷◌, ◌++◌, Permᴰ}
use native.Mathlib.Omega.{arith}
use native.Mathlib.Nat.{mul-suc}
use lib.ListN.{length}
use lib.Dec.{ltb}
use lib.IntN.{ℤ, pos, negsuc, nat_abs, sub_ℕ, ◌+ℤ◌, ◌*ℤ◌, +ℤ_idl, +ℤ_idr, +ℤ_assoc, +ℤ_comm}
use borrow.Author.Tests.{ltb-true}
use Rattle.call_lists.specs.Lists.{Every}
use Rattle.counts.proofs.Whole.{signed-size}
use Rattle.exact_moments.specs.Grid.{total}

-- ---- of two lists, and of one point more
pub total-append : (f : List ℤ → ℤ) (l m : List (List ℤ)) → total f (l ++ m) ≡ total f l +ℤ total f m
unfolding total
total-append f [] m = sym (+ℤ_idl (total f m))
total-append f (q ∷ l) m = ap (λ (z : ℤ). f q +ℤ z) (total-append f l m) ∙ sym (+ℤ_assoc (f q) (total f l) (total f m))

pub total_more : (f : List ℤ → ℤ) (l : List (List ℤ)) (q : List ℤ) → total f (l ++ (q ∷ [])) ≡ total f l +ℤ f q
unfolding total
total_more f l q = total-append f l (q ∷ []) ∙ ap (λ (z : ℤ). total f l +ℤ z) (+ℤ_idr (f q))

-- ---- in any order
swapped : (z w t : ℤ) → z +ℤ (w +ℤ t) ≡ w +ℤ (z +ℤ t)
swapped z w t = sym (+ℤ_assoc z w t) ∙ ap (λ (u : ℤ). u +ℤ t) (+ℤ_comm z w) ∙ +ℤ_assoc w z t

pub total_order_lem : (f : List ℤ → ℤ) {l m : List (List ℤ)} → Permᴰ l m → total f l ≡ total f m
unfolding total
total_order_lem f Permᴰ.nil = refl
total_order_lem f (Permᴰ.cons e d) = ap₂ (λ (z w : ℤ). z +ℤ w) (ap f e) (total_order_lem f d)
total_order_lem f (Permᴰ.swap {a = a} {b = b} {l = l} e₁ e₂) =
    swapped (f a) (f b) (total f l) ∙ ap₂ (λ (p q : List ℤ). f p +ℤ (f q +ℤ total f l)) e₂ e₁
total_order_lem f (Permᴰ.trans d₁ d₂) = total_order_lem f d₁ ∙ total_order_lem f d₂

pub length_order : {A : Type 0} {l m : List A} → Permᴰ l m → length l ≡ length m
length_order Permᴰ.nil = refl
length_order (Permᴰ.cons e d) = ap suc (length_order d)
length_order (Permᴰ.swap e₁ e₂) = refl
length_order (Permᴰ.trans d₁ d₂) = length_order d₁ ∙ length_order d₂

-- ---- how large
size-minus : (a b : ℕ) → nat_abs (sub_ℕ a b) ≤ a + b
size-minus a b = go (ltb a b) refl
  where
    go : (t : Bool) → ltb a b ≡ t → nat_abs (cond t (negsuc (b - suc a)) (pos (a - b))) ≤ a + b
    go true p = let l = ltb-true a b p in omega arith
    go false p = omega arith

size-plus : (z w : ℤ) → nat_abs (z +ℤ w) ≤ nat_abs z + nat_abs w
size-plus (pos a) (pos b) = omega arith
size-plus (pos a) (negsuc b) = size-minus a (suc b)
size-plus (negsuc a) (pos b) = omega (arith, size-minus b (suc a))
size-plus (negsuc a) (negsuc b) = omega arith

pub size_times : (z w : ℤ) → nat_abs (z *ℤ w) ≡ nat_abs z * nat_abs w
size_times (pos a) (pos b) = refl
size_times (pos a) (negsuc b) = signed-size true (a * suc b)
size_times (negsuc a) (pos b) = signed-size true (suc a * b)
size_times (negsuc a) (negsuc b) = refl

pub total_size : (f : List ℤ → ℤ) (k : ℕ) (l : List (List ℤ)) → Every (λ q. nat_abs (f q) ≤ k) l → nat_abs (total f l) ≤ k * length l
unfolding total
total_size f k [] h = omega arith
total_size f k (q ∷ l) h = rw (mul-suc k (length l)) (omega (arith, size-plus (f q) (total f l), total_size f k l h.1, h.0))
