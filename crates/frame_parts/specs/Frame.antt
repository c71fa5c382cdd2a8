-- The vector that a frame adds under a plane. Definition only.
-- x is the frame's action, f the centred frame, n the plane's normal and offset its offset.
use Rattle.std.specs.Prelude.{ℕ, List, Float}
use Rattle.sums.specs.Sum.{◌⊗◌}
use Rattle.point_moments.specs.declared.scatter.Centred.{Centred}
use Rattle.frame_normal.specs.Normal.{normal_in}
use Rattle.frame_cost.specs.Cost.{scatter_on, frame_along}
use Rattle.frame_segment.specs.Frame.{pulled_entry}

-- g_i = ((Σ_l D(l,i)·s_l) + m_i·t)·weight, with s = scatter·Aᵀn and t = count·along
unfoldable pub vector_entry : List Float → Centred → List Float → Float → Float → ℕ → Float
vector_entry x f n offset weight = pulled_entry x f n (scatter_on f (normal_in x n)) (f.count ⊗ frame_along x f n offset) weight
