-- What is added to a Hessian and a gradient: a list of terms, a cell and a number each, added in the list's order, each sum rounded once.
-- A block's entries are a function of row and column, so that a caller may add what it works out on the fly. Definitions only.
use Rattle.std.specs.Prelude.{ℕ, zero, suc, ◌+◌, ◌*◌, Bool, true, false, ◌&&◌, List, [], ◌∷◌, ◌++◌, eqb, leb, ltb, get_or, set, Float}
use Rattle.std.specs.Float.{nan}
use Rattle.sums.specs.Sum.{◌⊕◌}

pub record Term : Type 0 where
  pub cell : ℕ
  pub value : Float

-- the cell of row i and column j of a matrix of n rows, stored by columns
abbrev pub cell_of : ℕ → ℕ → ℕ → ℕ
cell_of n i j = j * n + i

-- v is added to the number in cell k
abbrev pub add_at : List Float → ℕ → Float → List Float
add_at h k v = set h k (get_or h k nan ⊕ v)

-- the terms are added, first to last
unfoldable pub add_all : List Float → List Term → List Float
add_all h [] = h
add_all h (t ∷ ts) = add_all (add_at h t.cell t.value) ts

-- f 0, then f 1, .., then f (k - 1): what a loop that counts up adds
unfoldable pub upto : {A : Type 0} → ℕ → (ℕ → List A) → List A
upto zero f = []
upto (suc k) f = upto k f ++ f k

-- entry r of cells from `base` on
unfoldable pub cell_at : ℕ → (ℕ → Float) → ℕ → List Term
cell_at base e r = record { cell = base + r; value = e r } ∷ []

-- `width` entries, for the cells from `offset` on
unfoldable pub segment : ℕ → ℕ → (ℕ → Float) → List Term
segment offset width e = upto width (cell_at offset e)

-- column c of a block: its rows, from row `offset` of column `offset + c` on
unfoldable pub column_at : ℕ → ℕ → ℕ → (ℕ → ℕ → Float) → ℕ → List Term
column_at n offset width e c = segment (cell_of n offset (offset + c)) width (λ r. e r c)

-- a block of `width` by `width` entries, at row and column `offset` of a matrix of n rows, column after column
unfoldable pub block : ℕ → ℕ → ℕ → (ℕ → ℕ → Float) → List Term
block n offset width e = upto width (column_at n offset width e)

-- ---- one cell under terms

-- v is added where a test holds
abbrev pub add_if : Bool → Float → Float → Float
add_if true x v = x ⊕ v
add_if false x v = x

-- what terms make of the content x of cell k: those for k are added, first to last
unfoldable pub at_cell : ℕ → List Term → Float → Float
at_cell k [] x = x
at_cell k (t ∷ ts) x = at_cell k ts (add_if (eqb k t.cell) x t.value)

-- row i is one of the `width` rows from `offset` on
abbrev pub within : ℕ → ℕ → ℕ → Bool
within offset width i = leb offset i && ltb i (offset + width)
