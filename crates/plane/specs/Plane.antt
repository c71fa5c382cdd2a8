-- A plane n·x + d = 0, and when a normal makes one. Definitions only.
use Rattle.std.specs.Prelude.{ℕ, not, cond, List, [], ◌∷◌, ◌++◌, Float, Result, Ok, Err}
use Rattle.std.specs.Float.{binary64}
use Rattle.std.specs.Float.Ieee.{of_bits, div}
use Rattle.sums.specs.Sum.{dot, divided}
use Rattle.lists.specs.Part.{◌!◌, part}
use Rattle.refusals.specs.Refusal.{Reason, ◌when◌}
use Rattle.refusals.specs.declared.Refusal.{Refusal}
use Rattle.refusals.specs.declared.Refusal.TheVariants.{DegenerateNormal}
use Rattle.square_root.specs.Computed.{square_root}
use Rattle.validate.specs.Finite.{finite_above}
use Rattle.plane.specs.declared.Plane.{Plane}

-- how many numbers a plane is as a list
abbrev pub PLANE : ℕ
PLANE = 4

-- normal at 0..2, offset at 3
abbrev pub plane_of : List Float → Plane
plane_of l = record { normal = part 3 l 0; offset = l ! 3 }

abbrev pub plane_list : Plane → List Float
plane_list p = part 3 p.normal 0 ++ p.offset ∷ []

-- sqrt(Σ n_r·n_r)
abbrev pub norm : List Float → Float
norm n = square_root (dot 3 n n)

-- 1e-12, by its bits
abbrev pub least_norm : Float
least_norm = of_bits binary64 0x3d71_9799_812d_ea11

-- 11 unless the norm is finite and above 1e-12; the offset is not tested
abbrev pub normal_reasons : List Float → List Reason
normal_reasons n = 11 when not (finite_above least_norm (norm n)) ∷ []

-- normal / norm and offset / norm
abbrev pub unit_plane : List Float → Float → Plane
unit_plane n d = record { normal = divided 3 n (norm n); offset = div binary64 d (norm n) }

-- the plane of a normal of any length, or reason 11
unfoldable pub plane_new : List Float → Float → Result Plane Refusal
plane_new n d = cond (finite_above least_norm (norm n)) (Ok (unit_plane n d)) (Err DegenerateNormal)
