-- What a frame and the fixed set cost under a plane, and all sets of a call. Definitions, and the laws of their sums; assumes nothing.
-- x is the frame's action, f the centred frame, n the plane's normal and offset its offset.
use Rattle.std.specs.Prelude.{ℕ, ◌≡◌, refl, List, [], ◌∷◌, length, Float}
use Rattle.std.proofs.Common.{suc-ne-zero}
use Rattle.std.specs.Float.{binary64}
use Rattle.std.specs.Float.Ieee.{of_bits, div}
use Rattle.sums.specs.Sum.{◌⊕◌, ◌⊗◌, sum_from_zero, dot, product}
use Rattle.point_moments.specs.Scatter.{centred_of}
use Rattle.point_moments.specs.declared.scatter.Centred.{Centred}
use Rattle.plane_fit.specs.Fit.{centre, frame_count, frame_at, action_at, and_fixed}
use Rattle.frame_normal.specs.Normal.{normal_in, along_of}
use Rattle.frame_cost.specs.declared.Pull.{Pull}

-- "Weight is 1 / (sigma·sigma)"
unfoldable pub weight_of : Float → Float
weight_of sigma = div binary64 (of_bits binary64 0x3ff0_0000_0000_0000) (sigma ⊗ sigma)

-- ---- one set

-- scatter·a, whose entry is Σ_c S(r,c)·a_c
unfoldable pub scatter_on : Centred → List Float → List Float
scatter_on f a = product 3 3 1 f.scatter a

-- "(a_n·(scatter·a_n) + count·along·along)·weight", for a set that sees the normal as a and has its mean `along` off the plane
unfoldable pub cost_of : Centred → List Float → Float → Float → Float
cost_of f a along weight = (dot 3 a (scatter_on f a) ⊕ f.count ⊗ along ⊗ along) ⊗ weight

-- with what its gradient has in common with it: scatter·a and count·along
abbrev pub pull_of : Centred → List Float → Float → Float → Pull
pull_of f a along weight = record { turn = scatter_on f a; shift = f.count ⊗ along; cost = cost_of f a along weight }

-- "along = normal·(A·mean + b) + offset"
abbrev pub frame_along : List Float → Centred → List Float → Float → Float
frame_along x f n offset = along_of n offset (centre x f)

unfoldable pub frame_cost : List Float → Centred → List Float → Float → Float → Float
frame_cost x f n offset weight = cost_of f (normal_in x n) (frame_along x f n offset) weight

-- no action touches the fixed set: it sees the normal as it is
unfoldable pub fixed_cost : Centred → List Float → Float → Float → Float
fixed_cost f n offset weight = cost_of f n (along_of n offset f.mean) weight

-- ---- all sets

-- what frame k costs
unfoldable pub cost_at : List Float → List Float → List Float → Float → Float → ℕ → Float
cost_at frames actions n offset weight k = frame_cost (action_at actions k) (frame_at frames k) n offset weight

-- Σ₀ over the frames, then the fixed set's. "The fixed set only costs"
unfoldable pub frames_cost : List Float → List Float → List Float → List Float → Float → Float → Float
frames_cost frames fixed actions n offset weight =
    and_fixed fixed (λ f. fixed_cost f n offset weight) (sum_from_zero (frame_count frames) (cost_at frames actions n offset weight))

-- ---- laws: a sum with the fixed set's term, or without one

pub fixed_none : (fixed : List Float) (term : Centred → Float) (sum : Float) → length fixed ≡ 0 → sum ≡ and_fixed fixed term sum
fixed_none [] term sum h = refl
fixed_none (x ∷ l) term sum h = absurd (suc-ne-zero (length l) h)

pub fixed_some : (fixed : List Float) (term : Centred → Float) (sum : Float) → (length fixed ≡ 0 → ⊥) → sum ⊕ term (centred_of fixed) ≡ and_fixed fixed term sum
fixed_some [] term sum h = absurd (h refl)
fixed_some (x ∷ l) term sum h = refl
