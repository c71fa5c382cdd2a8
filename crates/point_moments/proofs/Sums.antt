-- The moments of a list's points are made of the sums of six products and three coordinates: the two factors of a product may be swapped. Assumes nothing.
use Prim.Native.Nat.{ℕ, zero, suc, ◌≤◌}
use mathlib.Core.Path.{◌≡◌, refl, ◌∙◌, ap}
use mathlib.Core.List.{List}
use lib.IntN.{pos}
use lib.Ieee.{Float}
use Rattle.sums.specs.Sum.{column}
use Rattle.sums.specs.Laws.{⊗_comm}
use Rattle.lists.specs.Part.{◌!◌}
use Rattle.counts.specs.Whole.{float_of}
use Rattle.counts.specs.Saturation.{MOST}
use Rattle.point_sums.specs.declared.Sums.{Sums}
use Rattle.point_sums.specs.Sums as S
use Rattle.point_moments.specs.Moments.{with_point, of_points}
use Rattle.point_moments.specs.Steps.{of_sums}
use Rattle.point_moments.proofs.Counts.{count_of_points}

-- one point more
more : (n : Float) (s : Sums) (p : List Float) → with_point (of_sums n s) p ≡ of_sums (with_point (of_sums n s) p).count (S.with_point s p)
unfolding with_point S.with_point
more n s p = rw (⊗_comm (p ! 1) (p ! 0), ⊗_comm (p ! 2) (p ! 0), ⊗_comm (p ! 2) (p ! 1))

of_sums_lem : (n : ℕ) (p : List Float) → of_points n p ≡ of_sums (of_points n p).count (S.sums_of n p)
unfolding of_points S.sums_of
of_sums_lem zero p = refl
of_sums_lem (suc n) p = rw (of_sums_lem n p) (more (of_points n p).count (S.sums_of n p) (column 3 p n))

pub points_sums : (n : ℕ) (p : List Float) → n ≤ MOST → of_points n p ≡ of_sums (float_of (pos n)) (S.sums_of n p)
points_sums n p h = of_sums_lem n p ∙ ap (λ (x : Float). of_sums x (S.sums_of n p)) (count_of_points n p h)
