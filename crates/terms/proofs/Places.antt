-- The place of cell (i, j) of a matrix of n rows that is stored by columns: its row, its column, that it is inside, and a matrix by its cells. Assumes nothing.
use Rattle.std.specs.Prelude.{ℕ, zero, suc, ◌+◌, ◌*◌, ◌<◌, ◌%◌, ◌/◌, ◌≡◌, List, length, get_or, Float}
use Rattle.std.proofs.Common.{sym, ap, ◌∙◌, mod-eq_of_lt, add-zero, mul-zero, mod-lt, div-lt_iff_lt-mul, div-add-mod', not-suc-le-zero, arith, ext_get_or}
use Rattle.std.proofs.Math.Nat.{mul-add-mod_self_right, mul-add-div_right, div-eq_of_lt}
use Rattle.std.specs.Float.{nan}
use Rattle.sums.specs.Sum.{grid}
use Rattle.sums.specs.Laws.{length-grid, at-grid, off-add}
use Rattle.terms.specs.Terms.{cell_of}
use Rattle.terms.proofs.Laws.{column-before}

pub row_is : (n i j : ℕ) → i < n → cell_of n i j % n ≡ i
row_is n i j l = mul-add-mod_self_right j n i ∙ mod-eq_of_lt l

pub column_is : (n i j : ℕ) → i < n → cell_of n i j / n ≡ j
column_is n i j l =
    let pos : 0 < n = omega arith in
    mul-add-div_right pos j i ∙ rw (div-eq_of_lt l, add-zero)

-- one cell has one row and one column
pub same_row : (n i j i' j' : ℕ) → i < n → i' < n → cell_of n i j ≡ cell_of n i' j' → i ≡ i'
same_row n i j i' j' l l' e = sym (row_is n i j l) ∙ ap (λ (k : ℕ). k % n) e ∙ row_is n i' j' l'

pub same-column : (n i j i' j' : ℕ) → i < n → i' < n → cell_of n i j ≡ cell_of n i' j' → j ≡ j'
same-column n i j i' j' l l' e = sym (column_is n i j l) ∙ ap (λ (k : ℕ). k / n) e ∙ column_is n i' j' l'

pub cell_fits : (n i j : ℕ) → i < n → j < n → cell_of n i j < n * n
cell_fits n i j l l' = omega (arith, column-before n j n l')

-- a list is the matrix that has its cells
some-rows : (cols n p : ℕ) → p < cols * n → 0 < n
some-rows cols zero p h = absurd (not-suc-le-zero (rw mul-zero at h))
some-rows cols (suc n) p h = omega arith

pub grid_of_cells : (n cols : ℕ) (f : ℕ → ℕ → Float) (l : List Float) → length l ≡ cols * n → ((i j : ℕ) → i < n → j < cols → get_or l (cell_of n i j) nan ≡ f i j) → l ≡ grid n cols f
grid_of_cells n cols f l size cells = ext_get_or nan l (grid n cols f) (size ∙ sym (length-grid n cols f)) (λ p h. cell_is p (rw size at h))
  where
    cell_is : (p : ℕ) → p < cols * n → get_or l p nan ≡ get_or (grid n cols f) p nan
    cell_is p h =
        let pos : 0 < n = some-rows cols n p h in
        let row : p % n < n = mod-lt p pos in
        let column : p / n < cols = (div-lt_iff_lt-mul pos).1 h in
        let split : p / n * n + p % n ≡ p = div-add-mod' p n in
        ap (λ (q : ℕ). get_or l q nan) (sym split) ∙ cells (p % n) (p / n) row column
        ∙ sym (at-grid n cols f (p % n) (p / n) row column) ∙ ap (λ (q : ℕ). get_or (grid n cols f) q nan) (off-add (p / n * n) (p % n) ∙ split)
