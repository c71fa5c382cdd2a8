-- The calls of a host on planes as lists: why each is refused, and what it leaves. Definitions only.
use Rattle.std.specs.Prelude.{ℕ, List, [], ◌∷◌, length, Float}
use Rattle.refusals.specs.Refusal.{◌when◌, first_of, wrong_length, Answered}
use Rattle.square_root.specs.Computed.{square_root}
use Rattle.plane.specs.Plane.{PLANE, plane_of, plane_list, normal_reasons, unit_plane}
use Rattle.plane.specs.Sigma.{variance, variance_reasons}

-- plane_new: a normal of three numbers, and room for a plane
unfoldable pub new_refusal : List Float → List Float → ℕ
new_refusal n out = first_of (3 when wrong_length ((length n, 3) ∷ (length out, PLANE) ∷ []) ∷ normal_reasons n)

unfoldable pub new_plane : List Float → Float → List Float
new_plane n d = plane_list (unit_plane n d)

-- what point_to_plane_sigma is handed
pub record Inputs : Type 0 where
  pub plane : List Float
  pub centroid : List Float
  pub plane_covariance : List Float
  pub point_covariance : List Float
  pub world : List Float
  pub d_world_d_point : List Float

abbrev pub lengths : Inputs → List (ℕ × ℕ)
lengths x =
    (length x.plane, PLANE)
    ∷ (length x.centroid, 3)
    ∷ (length x.plane_covariance, 36)
    ∷ (length x.point_covariance, 9)
    ∷ (length x.world, 3)
    ∷ (length x.d_world_d_point, 9)
    ∷ []

abbrev pub variance_of : Inputs → Float
variance_of x =
    variance (plane_of x.plane).normal x.centroid x.plane_covariance x.point_covariance x.world x.d_world_d_point

unfoldable pub sigma_refusal : Inputs → ℕ
sigma_refusal x = first_of (3 when wrong_length (lengths x) ∷ variance_reasons (variance_of x))

unfoldable pub sigma : Inputs → Float
sigma x = square_root (variance_of x)

-- the call's number, and what it leaves in the deviation
abbrev pub SigmaAnswered : Inputs → ℕ → Float → Float → Type 0
SigmaAnswered x number old left = Answered (sigma_refusal x) number old left (sigma x)
