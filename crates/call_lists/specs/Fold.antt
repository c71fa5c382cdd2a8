-- One cell over a list of calls: C is what a call is, `terms` what it adds, and k the cell. Assumes nothing.
use Rattle.std.specs.Prelude.{ℕ, ◌<◌, ◌≡◌, Bool, ◌⊎◌, length, get_or, Float}
use Rattle.std.proofs.Math.Path.{refl, ap, ap₂}
use Rattle.std.proofs.Common.{sym, subst, ◌∙◌, ⊎_elim, eqb-true}
use Rattle.std.proofs.Math.Bool.{true, false}
use mathlib.Core.List.{List, [], ◌∷◌, Permᴰ}
use Rattle.std.proofs.Math.Logic.{inl, inr}
use Rattle.std.proofs.Math.Dec.{eqb}
use Rattle.std.specs.Float.{nan}
use Rattle.terms.specs.Terms.{Term, add_all, add_if, at_cell}
use Rattle.terms.proofs.Laws.{length-add_all}
use Rattle.terms.proofs.Cells.{get_or-add_all}
use Rattle.call_lists.specs.Lists.{In, Every, Pairs}
use Rattle.call_lists.specs.ListLaws.{every_in, every_imp, every_perm, pairs_perm}

-- what calls make of the content x of cell k: each call's terms for the cell are added, call after call, term after term
unfoldable pub cell_after : {C : Type 0} → (C → List Term) → ℕ → List C → Float → Float
cell_after terms k [] x = x
cell_after terms k (c ∷ cs) x = cell_after terms k cs (at_cell k (terms c) x)

-- the whole list of cells after the calls
unfoldable pub after : {C : Type 0} → (C → List Term) → List C → List Float → List Float
after terms [] h = h
after terms (c ∷ cs) h = after terms cs (add_all h (terms c))

module _ {C : Type 0} (terms : C → List Term) where
  pub length-after : (cs : List C) (h : List Float) → length (after terms cs h) ≡ length h
  unfolding after
  length-after [] h = refl
  length-after (c ∷ cs) h = length-after cs (add_all h (terms c)) ∙ length-add_all h (terms c)

  -- calls that add nothing
  pub after_none : (cs : List C) (h : List Float) → Every (λ c. terms c ≡ []) cs → after terms cs h ≡ h
  unfolding after add_all
  after_none [] h e = refl
  after_none (c ∷ cs) h e = rw e.0 (after_none cs h e.1)

  -- each cell of it
  pub after_is : (cs : List C) (h : List Float) (k : ℕ) → k < length h → get_or (after terms cs h) k nan ≡ cell_after terms k cs (get_or h k nan)
  unfolding after cell_after
  after_is [] h k l = refl
  after_is (c ∷ cs) h k l =
      after_is cs (add_all h (terms c)) k (rw length-add_all l) ∙ ap (cell_after terms k cs) (get_or-add_all (terms c) h k l)

  module _ (k : ℕ) (Owns : C → Type 0) where
    -- a call adds to the cell only if it owns it
    abbrev pub Claims : C → Type 0
    Claims c = Every (λ t. k ≡ t.cell → Owns c) (terms c)

    -- a call leaves the cell as it is, to the bit
    abbrev pub Leaves : C → Type 0
    Leaves c = (x : Float) → at_cell k (terms c) x ≡ x

    -- it owns the cell, or has no term for it
    owns_or-leaves : (c : C) (ts : List Term) → Every (λ t. k ≡ t.cell → Owns c) ts → Owns c ⊎ ((x : Float) → at_cell k ts x ≡ x)
    unfolding at_cell
    owns_or-leaves c [] h = inr (λ x. refl)
    owns_or-leaves c (t ∷ ts) h = go (eqb k t.cell) refl (owns_or-leaves c ts h.1)
      where
        go : (b : Bool) → eqb k t.cell ≡ b → Owns c ⊎ ((x : Float) → at_cell k ts x ≡ x)
            → Owns c ⊎ ((x : Float) → at_cell k ts (add_if (eqb k t.cell) x t.value) ≡ x)
        go true e r = inl (h.0 (eqb-true k t.cell e))
        go false e (inl o) = inl o
        go false e (inr f) = inr (λ x. rw e (f x))

    leaves : (c : C) → Claims c → (Owns c → ⊥) → Leaves c
    leaves c cl out = ⊎_elim (λ o. absurd (out o)) (λ f. f) (owns_or-leaves c (terms c) cl)

    -- no call owns the cell: it keeps its content
    pub cell-kept : (cs : List C) → Every Claims cs → Every (λ c. Owns c → ⊥) cs → (x : Float) → cell_after terms k cs x ≡ x
    unfolding cell_after
    cell-kept [] cl out x = refl
    cell-kept (c ∷ cs) cl out x = ap (cell_after terms k cs) (leaves c cl.0 out.0 x) ∙ cell-kept cs cl.1 out.1 x

    -- no two calls own the cell: only its owner's terms are added
    pub cell_owner : (cs : List C) → Every Claims cs → Pairs (λ c d. Owns c → Owns d → ⊥) cs → (c : C) → In c cs → Owns c
        → (x : Float) → cell_after terms k cs x ≡ at_cell k (terms c) x
    unfolding cell_after
    cell_owner [] cl apart c m o x = absurd m
    cell_owner (d ∷ cs) cl apart c (inl e) o x =
        let others = every_imp _ (λ (b : C). Owns b → ⊥) (λ b f. f (subst Owns e o)) cs apart.0 in
        cell-kept cs cl.1 others (at_cell k (terms d) x) ∙ ap (λ (b : C). at_cell k (terms b) x) (sym e)
    cell_owner (d ∷ cs) cl apart c (inr m) o x =
        let not-d : Owns d → ⊥ = λ o'. every_in (λ (b : C). Owns d → Owns b → ⊥) cs apart.0 c m o' o in
        ap (cell_after terms k cs) (leaves d cl.0 not-d x) ∙ cell_owner cs cl.1 apart.1 c m o x

    -- two calls of which at most one owns the cell may change places, and so may all
    swapped : (a b : C) → Claims a → Claims b → (Owns a → Owns b → ⊥) → (x : Float)
        → at_cell k (terms b) (at_cell k (terms a) x) ≡ at_cell k (terms a) (at_cell k (terms b) x)
    swapped a b ca cb apart x =
        ⊎_elim
        (λ o. let stay = leaves b cb (apart o) in stay (at_cell k (terms a) x) ∙ ap (at_cell k (terms a)) (sym (stay x)))
        (λ stay. ap (at_cell k (terms b)) (stay x) ∙ sym (stay (at_cell k (terms b) x))) (owns_or-leaves a (terms a) ca)

    pub cell_order : {cs ds : List C} → Permᴰ cs ds → Every Claims cs → Pairs (λ c d. Owns c → Owns d → ⊥) cs
        → (x : Float) → cell_after terms k cs x ≡ cell_after terms k ds x
    unfolding cell_after
    cell_order Permᴰ.nil cl apart x = refl
    cell_order (Permᴰ.cons {a = a} {l₂ = l₂} e d) cl apart x =
        cell_order d cl.1 apart.1 (at_cell k (terms a) x) ∙ ap (λ (c : C). cell_after terms k l₂ (at_cell k (terms c) x)) e
    cell_order (Permᴰ.swap {a = a} {b = b} {l = l} e₁ e₂) cl apart x =
        ap (cell_after terms k l) (swapped a b cl.0 cl.1.0 apart.0.0 x)
        ∙ ap₂ (λ (c d : C). cell_after terms k l (at_cell k (terms d) (at_cell k (terms c) x))) e₂ e₁
    cell_order (Permᴰ.trans d₁ d₂) cl apart x =
        cell_order d₁ cl apart x
        ∙ cell_order d₂ (every_perm Claims d₁ cl) (pairs_perm (λ c d. Owns c → Owns d → ⊥) (λ c d f o o'. f o' o) d₁ apart) x
