-- What a mapped frame adds at its segment under a plane: its block, and its vector for the numbers s and t that a caller hands in. Definitions only.
-- x is the frame's action, f the centred frame, n the plane's normal.
use Rattle.std.specs.Prelude.{ℕ, List, Float}
use Rattle.sums.specs.Sum.{◌⊕◌, ◌⊗◌, sum_to, column}
use Rattle.derivative.specs.Derivative.{d_an, d_along, d_scatter}
use Rattle.point_moments.specs.declared.scatter.Centred.{Centred}

-- D is the derivative of Aᵀn, m that of along, and P = DᵀS

-- h(i,j) = ((Σ_k P(i,k)·D(k,j)) + (m_i·m_j)·count)·weight. h(i,j) and h(j,i) need not have the same bits
unfoldable pub block_entry : List Float → Centred → List Float → Float → ℕ → ℕ → Float
block_entry x f n weight i j =
    (sum_to 3 (λ k. d_scatter x n (column 3 f.scatter k) i ⊗ d_an x n k j) ⊕ d_along x n f.mean i ⊗ d_along x n f.mean j ⊗ f.count) ⊗ weight

-- g_i = ((Σ_l D(l,i)·s_l) + m_i·t)·weight
unfoldable pub pulled_entry : List Float → Centred → List Float → List Float → Float → Float → ℕ → Float
pulled_entry x f n s t weight i = (d_scatter x n s i ⊕ d_along x n f.mean i ⊗ t) ⊗ weight
