-- The entries of products, of the numbers that they are made of.
use Rattle.std.specs.Prelude.{ℕ, ◌+◌, ◌*◌, ◌≡◌, List, get_or, Float}
use Rattle.std.proofs.Common.{add_comm, mul-one, zero-add, sym, ap, ◌∙◌}
use Rattle.std.specs.Float.{nan}
use Rattle.sums.specs.Sum.{sum_to, ◌⊗◌, at, off}
use Rattle.sums.specs.Laws.{off-add, sum_to-same}

-- entry c of the vector v times the matrix m of so many rows: Σ_k v_k · m(k, c)
unfoldable pub row_entry : ℕ → List Float → List Float → ℕ → Float
row_entry rows v m c = sum_to rows (λ k. get_or v k nan ⊗ at rows m k c)

-- entry r of the matrix a times the `inner` numbers of b from `from` on: Σ_k a(r, k) · b_(from + k)
unfoldable pub column_entry : ℕ → ℕ → List Float → List Float → ℕ → ℕ → Float
column_entry rows inner a b from r = sum_to inner (λ k. at rows a r k ⊗ get_or b (off from k) nan)

-- the same of column c of a matrix b of `inner` rows: the entry of the product at r and c
unfoldable pub entry_at : ℕ → ℕ → List Float → List Float → ℕ → ℕ → Float
entry_at rows inner a b r c = column_entry rows inner a b (c * inner) r

-- ---- as sums of products at even steps

pub row_steps : (rows : ℕ) (v m : List Float) (c : ℕ) → sum_to rows (λ k. get_or v (0 + k * 1) nan ⊗ get_or m (c * rows + k * 1) nan) ≡ row_entry rows v m c
unfolding row_entry
row_steps rows v m c = simp (off-add, zero-add, mul-one)

pub column_steps : (rows inner : ℕ) (a b : List Float) (from r : ℕ) → sum_to inner (λ k. get_or a (r + k * rows) nan ⊗ get_or b (from + k * 1) nan) ≡ column_entry rows inner a b from r
unfolding column_entry
column_steps rows inner a b from r =
    sum_to-same inner _ _ (λ k h. let e : r + k * rows ≡ off (k * rows) r = add_comm r (k * rows) ∙ sym (off-add (k * rows) r) in
    let q : from + k * 1 ≡ off from k = ap (λ j. from + j) (mul-one k) ∙ sym (off-add from k) in
    rw (e, q))
