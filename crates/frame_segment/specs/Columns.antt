-- A block that is added some columns at a time. A definition, and its laws over the number of columns. Assumes nothing.
use Rattle.std.specs.Prelude.{ℕ, zero, suc, ◌+◌, ◌≡◌, Float}
use Rattle.std.proofs.Common.{add-zero, add-suc, zero-add, ◌∙◌}
use Rattle.std.proofs.Math.Path.{sym, ap}
use mathlib.Core.List.{List, ◌++◌, append_assoc, append-nil}
use Rattle.terms.specs.Terms.{Term, add_all, upto, segment, column_at, cell_of, block}
use Rattle.terms.proofs.Laws.{add_all-append, upto-none, upto_more, upto-same}

-- so many columns of a block, from column `first` on
unfoldable pub columns : ℕ → ℕ → ℕ → (ℕ → ℕ → Float) → ℕ → ℕ → List Term
columns n offset width e first many = upto many (λ c. column_at n offset width e (first + c))

-- ---- laws

-- f 0 .. f (a - 1), and then b more
upto_split : {A : Type 0} (a b : ℕ) (f : ℕ → List A) → upto (a + b) f ≡ upto a f ++ upto b (λ c. f (a + c))
unfolding upto
upto_split a zero f = rw (add-zero, append-nil)
upto_split a (suc b) f = rw (add-suc, upto_split a b f, append_assoc)

module _ (n offset width : ℕ) (e : ℕ → ℕ → Float) where
  -- a loop that adds column after column: before its first turn, and after one more
  pub columns-none : (h : List Float) (first : ℕ) → h ≡ add_all h (columns n offset width e first 0)
  unfolding columns
  columns-none h first = upto-none h _

  pub columns_more : (h₀ h h' : List Float) (first c : ℕ) → h ≡ add_all h₀ (columns n offset width e first c) → h' ≡ add_all h (segment (cell_of n offset (offset + (first + c))) width (λ r. e r (first + c)))
      → h' ≡ add_all h₀ (columns n offset width e first (c + 1))
  unfolding columns column_at
  columns_more h₀ h h' first c p q = upto_more h₀ h h' (λ c. column_at n offset width e (first + c)) c p q

  -- all columns are the block, also where they are added in two turns
  from_first : (a : ℕ) → columns n offset width e 0 a ≡ upto a (column_at n offset width e)
  unfolding columns
  from_first a = upto-same a _ _ (λ c l. ap (column_at n offset width e) (zero-add c))

  pub columns_all : (h : List Float) {h' : List Float} → h' ≡ add_all h (columns n offset width e 0 width) → h' ≡ add_all h (block n offset width e)
  unfolding block
  columns_all h p = p ∙ ap (add_all h) (from_first width)

  pub columns-two : (a b : ℕ) (h : List Float) {h' h'' : List Float} → a + b ≡ width → h' ≡ add_all h (columns n offset width e 0 a) → h'' ≡ add_all h' (columns n offset width e a b) → h'' ≡ add_all h (block n offset width e)
  unfolding block columns
  columns-two a b h w p q =
      q ∙ ap (λ (l : List Float). add_all l (columns n offset width e a b)) (p ∙ ap (add_all h) (from_first a))
      ∙ sym (add_all-append h (upto a (column_at n offset width e)) (columns n offset width e a b))
      ∙ ap (add_all h) (sym (upto_split a b (column_at n offset width e)) ∙ ap (λ (k : ℕ). upto k (column_at n offset width e)) w)
