-- A frame factor linearized at a plane: the residuals and the cells of the Jacobian, each by its row and column. Definitions only.
-- frames: centred frames one after the other. fixed: nothing, or one centred frame. actions: one for each frame. ds: the decompositions by their bit
-- patterns, the fit's, one a frame, and the fixed set's. n and offset are the plane, info is 1 / sigma.
use Rattle.std.specs.Prelude.{ℕ, ◌+◌, ◌*◌, ◌/◌, ◌%◌, cond, List, [], ◌∷◌, ◌++◌, ltb, eqb, Float}
use Rattle.sums.specs.Sum.{◌⊗◌, zero_f, tab, dot, grid}
use Rattle.square_root.specs.Computed.{square_root}
use Rattle.derivative.specs.Derivative.{d_an, d_along}
use Rattle.point_moments.specs.Scatter.{centred_of}
use Rattle.plane_fit.specs.Fit.{frame_at, action_at, frame_count, centre}
use Rattle.frame_normal.specs.Normal.{normal_in, along_of}
use Rattle.frame_roots.specs.Roots.{root_row, decomposition_at}

-- ---- the rows of a set

-- Row k of the four that a set of so many points has for a vector v and a distance s: (Σ_l R(k,l)·v_l)·info for k 0..2, and (sqrt(count)·s)·info.
-- For residuals v and s are the normal in the frame and the distance of its mean; for a column of the Jacobian, their derivatives.
unfoldable pub set_row : List ℕ → Float → List Float → Float → Float → ℕ → Float
set_row d count v s info k = cond (ltb k 3) (dot 3 (root_row d k) v ⊗ info) (square_root count ⊗ s ⊗ info)

-- ---- the rows of the factor

-- residual 4f + k
unfoldable pub frame_row : List Float → List Float → List ℕ → List Float → Float → Float → ℕ → ℕ → Float
frame_row frames actions ds n offset info k f =
    let x = action_at actions f in
    let s = frame_at frames f in
    set_row (decomposition_at ds (f + 1)) s.count (normal_in x n) (along_of n offset (centre x s)) info k

-- the four residuals of the fixed set, which no action touches, after so many frames; +0 where there is none
unfoldable pub fixed_row : ℕ → List Float → List ℕ → List Float → Float → Float → ℕ → Float
fixed_row count [] ds n offset info k = zero_f
fixed_row count (x ∷ l) ds n offset info k =
    let s = centred_of (x ∷ l) in
    set_row (decomposition_at ds (count + 1)) s.count n (along_of n offset s.mean) info k

unfoldable pub residual_of : List Float → List Float → List Float → List ℕ → List Float → Float → Float → List Float
residual_of frames fixed actions ds n offset info =
    grid 4 (frame_count frames) (frame_row frames actions ds n offset info) ++ tab 4 (fixed_row (frame_count frames) fixed ds n offset info)

-- ---- the Jacobian

-- row k and column c of frame f's block
unfoldable pub block_cell : List Float → List Float → List ℕ → List Float → Float → ℕ → ℕ → ℕ → Float
block_cell frames actions ds n info f c k =
    let x = action_at actions f in
    let s = frame_at frames f in
    set_row (decomposition_at ds (f + 1)) s.count (tab 3 (λ l. d_an x n l c)) (d_along x n s.mean c) info k

-- a cell by its row 4g + k and its column f·dof + c: frame f's block where g is f, every other cell +0
unfoldable pub jacobian_cell : List Float → List Float → List ℕ → List Float → Float → ℕ → ℕ → ℕ → Float
jacobian_cell frames actions ds n info dof row col =
    cond (eqb (row / 4) (col / dof)) (block_cell frames actions ds n info (col / dof) (col % dof) (row % 4)) zero_f

-- four rows a frame and four for the fixed set; dof columns a frame
abbrev pub row_count : List Float → ℕ
row_count frames = (frame_count frames + 1) * 4

unfoldable pub jacobian_of : List Float → List Float → List ℕ → List Float → Float → ℕ → List Float
jacobian_of frames actions ds n info dof =
    grid (row_count frames) (frame_count frames * dof) (jacobian_cell frames actions ds n info dof)
