-- What adding matches leaves in the numbers that they are summed in: nine to a column, of which the upper half is kept. Definitions only.
use Rattle.std.specs.Prelude.{ℕ, ◌+◌, ◌*◌, ◌<◌, ◌≤◌, ◌≡◌, cond, List, leb, length, Float}
use Rattle.sums.specs.Sum.{◌⊕◌, ◌⊗◌, sum_from}
use Rattle.lists.specs.Part.{◌!◌}

-- row i and column j
abbrev pub cell : List Float → ℕ → ℕ → Float
cell h i j = h ! (j * 9 + i)

-- one term added to each cell of the upper half, and to each number of the vector g
pub record Added (width : ℕ) (f : ℕ → ℕ → Float) (e : ℕ → Float) (h g h' g' : List Float) : Type 0 where
  pub cells : (i j : ℕ) → i ≤ j → j < width → cell h' i j ≡ cell h i j ⊕ f i j
  pub numbers : (i : ℕ) → i < width → g' ! i ≡ g ! i ⊕ e i
  pub size : length h' ≡ length h
  pub long : length g' ≡ length g

-- n terms added to each, one after the other
pub record Summed (width n : ℕ) (f : ℕ → ℕ → ℕ → Float) (e : ℕ → ℕ → Float) (h g h' g' : List Float) : Type 0 where
  pub cells : (i j : ℕ) → i ≤ j → j < width → cell h' i j ≡ sum_from (cell h i j) n (f i j)
  pub numbers : (i : ℕ) → i < width → g' ! i ≡ sum_from (g ! i) n (e i)
  pub size : length h' ≡ length h
  pub long : length g' ≡ length g

-- the terms of one match
abbrev pub squares : (ℕ → Float) → ℕ → ℕ → Float
squares row i j = row i ⊗ row j

abbrev pub slants : (ℕ → Float) → Float → ℕ → Float
slants row r i = row i ⊗ r

-- f 0 .. f (n - 1) added to the n numbers from `from` on: the others stay
pub record Raised (from n : ℕ) (f : ℕ → Float) (h h' : List Float) : Type 0 where
  pub done : (k : ℕ) → k < n → h' ! (from + k) ≡ h ! (from + k) ⊕ f k
  pub below : (p : ℕ) → p < from → h' ! p ≡ h ! p
  pub above : (p : ℕ) → from + n ≤ p → h' ! p ≡ h ! p
  pub size : length h' ≡ length h

-- the columns before c of the upper half raised by a row's products
pub record Upper (c : ℕ) (row : ℕ → Float) (h h' : List Float) : Type 0 where
  pub cells : (i j : ℕ) → i ≤ j → j < c → cell h' i j ≡ cell h i j ⊕ row i ⊗ row j
  pub rest : (p : ℕ) → c * 9 ≤ p → h' ! p ≡ h ! p
  pub size : length h' ≡ length h

-- where the upper half has row i and column j
unfoldable pub upper_place : ℕ → ℕ → ℕ
upper_place i j = cond (leb i j) (j * 9 + i) (i * 9 + j)
