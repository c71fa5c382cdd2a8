-- The rows of a bundle under its plane: a residual for each point, and a Jacobian in which a site point has its own frame's columns alone. Definitions only.
-- counts: each frame's number of points; all: the site points, frame after frame, and then the fixed ones; q: their centroid; n: the plane's normal;
-- info: 1 / sigma; state: dof columns of three numbers for each site point.
use Rattle.std.specs.Prelude.{ℕ, ◌+◌, ◌*◌, ◌/◌, ◌%◌, Bool, ◌&&◌, cond, List, [], ◌∷◌, ltb, leb, take, Float}
use Rattle.sums.specs.Sum.{◌⊗◌, zero_f, sum_to}
use Rattle.lists.specs.Part.{◌!◌}
use Rattle.map_plane.specs.Linearize.{state_column}
use Rattle.bundle_points.specs.Points.{difference}

-- residual_k = info·(Σ n_r·(p_r - q_r))
unfoldable pub residual_at : List Float → List Float → List Float → Float → ℕ → Float
residual_at all q n info k = info ⊗ sum_to 3 (λ r. n ! r ⊗ difference all q r k)

-- the counts summed
unfoldable pub total : List ℕ → ℕ
total [] = 0
total (n ∷ ns) = n + total ns

-- frame f's first row: the counts before it, summed
unfoldable pub start : List ℕ → ℕ → ℕ
start counts f = total (take f counts)

-- row k is a point of frame f. A fixed point's row is no frame's
unfoldable pub in_frame : List ℕ → ℕ → ℕ → Bool
in_frame counts f k = leb (start counts f) k && ltb k (start counts (f + 1))

-- column c of frame f at row k: info·(Σ n_r·column_c(r)) for a point of the frame, else +0
unfoldable pub frame_cell : List ℕ → ℕ → List Float → List Float → Float → ℕ → ℕ → ℕ → Float
frame_cell counts dof state n info f c k = cond (in_frame counts f k) (state_column info n state (k * dof + c)) zero_f

-- J(k, f·dof + c)
unfoldable pub jacobian_cell : List ℕ → ℕ → List Float → List Float → Float → ℕ → ℕ → Float
jacobian_cell counts dof state n info k column = frame_cell counts dof state n info (column / dof) (column % dof) k
