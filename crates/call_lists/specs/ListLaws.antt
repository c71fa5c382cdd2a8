-- Laws of membership, and of what holds of every element of a list, of some, or of each two. Assumes nothing.
use Prim.Native.Nat.{ℕ, zero, suc, ◌<◌}
use Rattle.std.specs.Prelude.{◌≡◌, refl, ◌⊎◌}
use Rattle.std.proofs.Common.{sym, subst, subst₂, inl, inr, not-suc-le-zero, eq-or-lt_of_le, le_of_suc-le-suc}
use mathlib.Core.List.{List, [], ◌∷◌, ◌++◌, Permᴰ}
use Rattle.std.proofs.Math.Logic.{⊎_elim}
use native.Mathlib.Omega.{arith}
use Rattle.terms.specs.Terms.{upto}
use Rattle.call_lists.specs.Lists.{In, Every, Some, Pairs}

module _ {A : Type 0} where
  module _ (P : A → Type 0) where
    pub every_in : (xs : List A) → Every P xs → (a : A) → In a xs → P a
    every_in [] h a m = absurd m
    every_in (x ∷ xs) h a (inl e) = subst P (sym e) h.0
    every_in (x ∷ xs) h a (inr m) = every_in xs h.1 a m

    pub in_every : (xs : List A) → ((a : A) → In a xs → P a) → Every P xs
    in_every [] f = tt
    in_every (x ∷ xs) f = (f x (inl refl), in_every xs (λ a m. f a (inr m)))

    pub every_append : (xs ys : List A) → Every P xs → Every P ys → Every P (xs ++ ys)
    every_append [] ys h g = g
    every_append (x ∷ xs) ys h g = (h.0, every_append xs ys h.1 g)

    pub some_left : (xs ys : List A) → Some P xs → Some P (xs ++ ys)
    some_left [] ys s = absurd s
    some_left (x ∷ xs) ys (inl p) = inl p
    some_left (x ∷ xs) ys (inr s) = inr (some_left xs ys s)

    pub some_right : (xs ys : List A) → Some P ys → Some P (xs ++ ys)
    some_right [] ys s = s
    some_right (x ∷ xs) ys s = inr (some_right xs ys s)

    -- of f 0 ++ .. ++ f (k - 1): what holds of every element of each part, and of some element of part i
    pub every_upto : (k : ℕ) (f : ℕ → List A) → ((i : ℕ) → i < k → Every P (f i)) → Every P (upto k f)
    unfolding upto
    every_upto zero f h = tt
    every_upto (suc k) f h = every_append (upto k f) (f k) (every_upto k f (λ i l. h i (omega arith))) (h k (omega arith))

    pub some-upto : (k : ℕ) (f : ℕ → List A) (i : ℕ) → i < k → Some P (f i) → Some P (upto k f)
    unfolding upto
    some-upto zero f i l s = absurd (not-suc-le-zero l)
    some-upto (suc k) f i l s =
        ⊎_elim (λ (e : i ≡ k). some_right (upto k f) (f k) (subst (λ (j : ℕ). Some P (f j)) e s))
        (λ (m : i < k). some_left (upto k f) (f k) (some-upto k f i m s)) (eq-or-lt_of_le (le_of_suc-le-suc l))

    some_split : (xs ys : List A) → Some P (xs ++ ys) → Some P xs ⊎ Some P ys
    some_split [] ys s = inr s
    some_split (x ∷ xs) ys (inl p) = inl (inl p)
    some_split (x ∷ xs) ys (inr s) = ⊎_elim (λ q. inl (inr q)) (λ q. inr q) (some_split xs ys s)

    pub upto-some : (k : ℕ) (f : ℕ → List A) → Some P (upto k f) → (i : ℕ) × (i < k) × Some P (f i)
    unfolding upto
    upto-some zero f s = absurd s
    upto-some (suc k) f s =
        ⊎_elim (λ q. let r = upto-some k f q in (r.0, omega (arith, r.1), r.2)) (λ q. (k, omega arith, q)) (some_split (upto k f) (f k) s)

  module _ (P Q : A → Type 0) (f : (a : A) → P a → Q a) where
    pub every_imp : (xs : List A) → Every P xs → Every Q xs
    every_imp [] h = tt
    every_imp (x ∷ xs) h = (f x h.0, every_imp xs h.1)

    pub some_imp : (xs : List A) → Some P xs → Some Q xs
    some_imp [] s = absurd s
    some_imp (x ∷ xs) (inl p) = inl (f x p)
    some_imp (x ∷ xs) (inr s) = inr (some_imp xs s)

  pub pairs_imp : (R S : A → A → Type 0) (f : (a b : A) → R a b → S a b) (xs : List A) → Pairs R xs → Pairs S xs
  pairs_imp R S f [] h = tt
  pairs_imp R S f (x ∷ xs) h = (every_imp (R x) (S x) (f x) xs h.0, pairs_imp R S f xs h.1)

  -- a permutation keeps what holds of every element, and of each two where the relation goes both ways
  pub every_perm : (P : A → Type 0) {xs ys : List A} → Permᴰ xs ys → Every P xs → Every P ys
  every_perm P Permᴰ.nil h = tt
  every_perm P (Permᴰ.cons e d) h = (subst P e h.0, every_perm P d h.1)
  every_perm P (Permᴰ.swap e₁ e₂) h = (subst P e₂ h.1.0, (subst P e₁ h.0, h.1.1))
  every_perm P (Permᴰ.trans d₁ d₂) h = every_perm P d₂ (every_perm P d₁ h)

  pub pairs_perm : (R : A → A → Type 0) → ((a b : A) → R a b → R b a) → {xs ys : List A} → Permᴰ xs ys → Pairs R xs → Pairs R ys
  pairs_perm R back Permᴰ.nil h = tt
  pairs_perm R back (Permᴰ.cons {l₂ = ys} e d) h = (subst (λ (a : A). Every (R a) ys) e (every_perm (R _) d h.0), pairs_perm R back d h.1)
  pairs_perm R back (Permᴰ.swap {l = l} e₁ e₂) h =
      ((subst₂ R e₂ e₁ (back _ _ h.0.0), subst (λ (a : A). Every (R a) l) e₂ h.1.0), (subst (λ (a : A). Every (R a) l) e₁ h.0.1, h.1.1))
  pairs_perm R back (Permᴰ.trans d₁ d₂) h = pairs_perm R back d₂ (pairs_perm R back d₁ h)
