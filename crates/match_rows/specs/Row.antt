-- One match under an action x: its residual and its row of derivatives. s is a point, n a normal. Definitions only.
use Rattle.std.specs.Prelude.{ℕ, List, Float}
use Rattle.sums.specs.Sum.{◌⊕◌, ◌⊗◌, dot}
use Rattle.action.specs.Carried.{carried}
use Rattle.derivative.specs.Derivative.{d_along}
use Rattle.map_plane.specs.Match.{match_at, point, normal, offset, information}

-- ((Σ n_r·w_r) + offset)·information, where w is the point carried into the site
abbrev pub residual_of : List Float → List Float → List Float → Float → Float → Float
residual_of x s n d info = (dot 3 n (carried x s) ⊕ d) ⊗ info

-- entry c of the derivative of nᵀ(A·s + b), times information, which scales last
abbrev pub row_of : List Float → List Float → List Float → Float → ℕ → Float
row_of x s n info c = d_along x n s c ⊗ info

-- the same of a match
abbrev pub residual : List Float → List Float → Float
residual x m = residual_of x (point m) (normal m) (offset m) (information m)

abbrev pub row : List Float → List Float → ℕ → Float
row x m c = row_of x (point m) (normal m) (information m) c

-- and of match k of a list, with its information
unfoldable pub information_at : List Float → ℕ → Float
information_at ms k = information (match_at ms k)

unfoldable pub residual_at : List Float → List Float → ℕ → Float
residual_at x ms k = residual x (match_at ms k)

unfoldable pub row_at : List Float → List Float → ℕ → ℕ → Float
row_at x ms k c = row x (match_at ms k) c
