-- A block and its vector side by side, row after row, in ninety numbers: how it is read, and what the loops over its rows leave. Definitions only.
use Rattle.std.specs.Prelude.{ℕ, ◌+◌, ◌*◌, ◌<◌, ◌≤◌, ◌≡◌, cond, List, ltb, length, Float}
use Rattle.sums.specs.Sum.{◌⊕◌, ◌⊗◌}
use Rattle.sums.specs.Fill.{First}
use Rattle.lists.specs.Part.{◌!◌}
use Rattle.terms.specs.Terms.{add_all, segment, block}
use Rattle.block_transforms.specs.Transform.{entry_from, transformed_block, transformed_vector}

-- number k of row r, the rows standing `stride` numbers apart
unfoldable pub rows_of : ℕ → List Float → ℕ → ℕ → Float
rows_of stride a r k = a ! (r * stride + k)

-- number k of each row
unfoldable pub spaced : ℕ → List Float → ℕ → ℕ → Float
spaced stride a k r = rows_of stride a r k

-- number k of row i: the block's entries, and behind them the vector's
unfoldable pub row_with : ℕ → (ℕ → ℕ → Float) → (ℕ → Float) → ℕ → ℕ → Float
row_with width e v i k = cond (ltb k width) (e i k) (v i)

-- the first of ten numbers
pub record Sums (lanes : ℕ) (f : ℕ → Float) (s : List Float) : Type 0 where
  pub are : First lanes s f
  pub size : length s ≡ 10

-- x times numbers of a, added to the first k of so many sums
pub record Raised (x : Float) (a : List Float) (at lanes k : ℕ) (s s' : List Float) : Type 0 where
  pub done : (i : ℕ) → i < k → s' ! i ≡ (s ! i) ⊕ x ⊗ (a ! (at + i))
  pub rest : (i : ℕ) → k ≤ i → s' ! i ≡ s ! i
  pub size : length s' ≡ 10

-- the first `count` rows, of `lanes` numbers each
pub record Rows (stride lanes : ℕ) (f : ℕ → ℕ → Float) (count : ℕ) (a : List Float) : Type 0 where
  pub are : (i k : ℕ) → i < count → k < lanes → rows_of stride a i k ≡ f i k
  pub size : length a ≡ 90

-- M and v as they stand, added at row `at` of a Hessian of order n and a gradient
pub record AddedRows (n at width stride : ℕ) (m h h' g g' : List Float) : Type 0 where
  pub hessian : h' ≡ add_all h (block n at width (rows_of stride m))
  pub gradient : g' ≡ add_all g (segment at width (spaced stride m width))

-- and through a transform of so many rows and columns, which starts at `from` in t; u is the room of the left product
pub record AddedThrough (n at rows cols stride : ℕ) (t : List Float) (from : ℕ) (m u h h' g g' : List Float) : Type 0 where
  pub hessian : h' ≡ add_all h (block n at cols (transformed_block rows (entry_from t from rows) (rows_of stride m)))
  pub gradient : g' ≡ add_all g (segment at cols (transformed_vector rows (entry_from t from rows) (spaced stride m rows)))
  pub room : length u ≡ 90
