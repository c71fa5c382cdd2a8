-- Calls that are made of frames: what an accepted call of both factors is, with a plane and without. Definitions only.
use Rattle.std.specs.Prelude.{ℕ, zero, suc, ◌-◌, ◌&&◌, List, [], Float, Option, Some, None}
use Rattle.terms.specs.Terms.{Term, upto, add_if, within}
use Rattle.normal_blocks.specs.Target.{hessian_at, gradient_at}
use Rattle.call_lists.specs.Segments.{Layout}
use Rattle.call_lists.specs.Calls.{Call, accepted}

-- The frames of a call: where they go, the entries of each one's block by row and column, and those of its vector.
pub record Frames : Type 0 where
  pub layout : Layout
  pub block : ℕ → ℕ → ℕ → Float
  pub vector : ℕ → ℕ → Float

-- what frame k adds to the Hessian of order n and to the gradient
unfoldable pub frame_hessian : ℕ → Frames → ℕ → List Term
frame_hessian n f k = hessian_at n (f.layout.width k) (f.layout.place k) (f.block k)

unfoldable pub frame_gradient : Frames → ℕ → List Term
frame_gradient f k = gradient_at (f.layout.width k) (f.layout.place k) (f.vector k)

-- an accepted call with a plane: frame after frame
abbrev pub framed : ℕ → Float → Frames → Call
framed n x f = accepted x (upto f.layout.count (frame_hessian n f)) (upto f.layout.count (frame_gradient f))

-- an accepted call without plane adds nothing
abbrev pub idle : Float → Call
idle x = accepted x [] []

-- ---- one cell under such a call: an entry for each frame, in order, whose segment has the cell's row and column
abbrev pub entry_added : ℕ → Option ℕ → (ℕ → ℕ → Float) → ℕ → ℕ → Float → Float
entry_added width (Some o) e i j x = add_if (within o width i && within o width j) x (e (i - o) (j - o))
entry_added width None e i j x = x

abbrev pub number_added : ℕ → Option ℕ → (ℕ → Float) → ℕ → Float → Float
number_added width (Some o) v i x = add_if (within o width i) x (v (i - o))
number_added width None v i x = x

-- cell (i, j) of the Hessian and cell i of the gradient after the first k frames, of their content x
unfoldable pub hessian_cell : Frames → ℕ → ℕ → ℕ → Float → Float
hessian_cell f zero i j x = x
hessian_cell f (suc k) i j x = entry_added (f.layout.width k) (f.layout.place k) (f.block k) i j (hessian_cell f k i j x)

unfoldable pub gradient_cell : Frames → ℕ → ℕ → Float → Float
gradient_cell f zero i x = x
gradient_cell f (suc k) i x = number_added (f.layout.width k) (f.layout.place k) (f.vector k) i (gradient_cell f k i x)
