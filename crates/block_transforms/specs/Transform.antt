-- Block transforms, from request (iii) of document 02: the transform of each word of a map, and what it makes of a frame. Definitions only.
use Rattle.std.specs.Prelude.{ℕ, ◌+◌, ◌*◌, ◌/◌, ◌&&◌, cond, List, [], eqb, ltb, length, get_or, Float, Option, Some, None}
use Rattle.std.specs.Float.{nan}
use Rattle.sums.specs.Sum.{◌⊗◌, sum_to}
use Rattle.call_lists.specs.Segments.{Layout}
use Rattle.call_lists.specs.Frames.{Frames}
use Rattle.block_transforms.specs.declared.Shape.{Shape}

-- ---- beside a map: two words and 81 numbers for each of its words

-- a transform of so many rows and columns
abbrev pub sized : ℕ → ℕ → Option Shape
sized rows cols = Some (record { rows = rows; cols = cols })

-- "its transform's rows and columns (both 4,294,967,295 for none)"
abbrev pub NO_TRANSFORM : ℕ
NO_TRANSFORM = 4294967295

unfoldable pub shape_of : ℕ → ℕ → Option Shape
shape_of rows cols = cond (eqb rows NO_TRANSFORM && eqb cols NO_TRANSFORM) None (sized rows cols)

-- word k's; "both slices empty mean none", and so has a word past their end
unfoldable pub shape_at : List ℕ → ℕ → Option Shape
shape_at shapes k = cond (ltb k (length shapes / 2)) (shape_of (get_or shapes (2 * k) 0) (get_or shapes (2 * k + 1) 0)) None

-- how many numbers a word's transform has room for: word k's are those from 81·k on
abbrev pub ROOM : ℕ
ROOM = 81

-- "its columns first": T(r,c) of a matrix of so many rows whose columns stand one after the other from a place on
unfoldable pub entry_from : List Float → ℕ → ℕ → ℕ → ℕ → Float
entry_from numbers from rows r c = get_or numbers (from + (c * rows + r)) nan

-- the own inputs W of a call, with what lies beside its map; and those of a call that takes no transforms
pub record Beside (W : Type 0) : Type 0 where
  pub work : W
  pub shapes : List ℕ
  pub transforms : List Float

abbrev pub without : {W : Type 0} → W → Beside W
without w = record { work = w; shapes = []; transforms = [] }

-- ---- "the Hessian gets Tᵀ·M·T and the gradient Tᵀ·v, left product first, products added in rising index from the first, a sum of no products being +0"

-- U = Tᵀ-as-M
unfoldable pub left_product : ℕ → (ℕ → ℕ → Float) → (ℕ → ℕ → Float) → ℕ → ℕ → Float
left_product rows t m i k = sum_to rows (λ r. t r i ⊗ m r k)

-- U-as-T
unfoldable pub transformed_block : ℕ → (ℕ → ℕ → Float) → (ℕ → ℕ → Float) → ℕ → ℕ → Float
transformed_block rows t m i j = sum_to rows (λ k. left_product rows t m i k ⊗ t k j)

-- Tᵀ·v
unfoldable pub transformed_vector : ℕ → (ℕ → ℕ → Float) → (ℕ → Float) → ℕ → Float
transformed_vector rows t v i = sum_to rows (λ r. t r i ⊗ v r)

-- a block of entries m and a vector of entries v, t having the entries of a matrix of so many rows; without a transform they are as they were
abbrev pub block_under : Option Shape → (ℕ → ℕ → ℕ → Float) → (ℕ → ℕ → Float) → ℕ → ℕ → Float
block_under None t m = m
block_under (Some s) t m = transformed_block s.rows (t s.rows) m

abbrev pub vector_under : Option Shape → (ℕ → ℕ → ℕ → Float) → (ℕ → Float) → ℕ → Float
vector_under None t v = v
vector_under (Some s) t v = transformed_vector s.rows (t s.rows) v

-- "A segment is from then on as wide as its transform"
abbrev pub width_under : Option Shape → ℕ → ℕ
width_under None dof = dof
width_under (Some s) dof = s.cols

-- that of frame k, which is word k's
unfoldable pub width_at : (ℕ → Option Shape) → ℕ → ℕ → ℕ
width_at shape dof k = width_under (shape k) dof

abbrev pub layout_through : (ℕ → Option Shape) → Layout → Layout
layout_through shape l = record { count = l.count; place = l.place; width = λ k. width_at shape (l.width k) k }

-- THE FRAMES OF A CALL THROUGH ITS TRANSFORMS. Ownership, the book and demand 3 speak of frames with a width each, and so hold of these as they stand
abbrev pub through : (ℕ → Option Shape) → List Float → Frames → Frames
through shape transforms f = record {
  layout = layout_through shape f.layout;
  block = λ k. block_under (shape k) (entry_from transforms (ROOM * k)) (f.block k);
  vector = λ k. vector_under (shape k) (entry_from transforms (ROOM * k)) (f.vector k);
}
