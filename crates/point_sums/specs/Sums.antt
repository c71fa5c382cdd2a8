-- The sums that the moments of a list of points are made of: of the coordinates, and of the six products of two of them that differ. Definitions only.
use Rattle.std.specs.Prelude.{ℕ, zero, suc, List, Float}
use Rattle.sums.specs.Sum.{◌⊕◌, ◌⊗◌, zero_f, column}
use Rattle.lists.specs.Part.{◌!◌}
use Rattle.point_sums.specs.declared.Sums.{Sums}

-- of no points
abbrev pub none : Sums
none = record { xy = zero_f; yz = zero_f; xx = zero_f; yy = zero_f; x = zero_f; y = zero_f; xz = zero_f; zz = zero_f; z = zero_f }

-- with the point p
unfoldable pub with_point : Sums → List Float → Sums
with_point s p = record {
  xy = s.xy ⊕ p ! 0 ⊗ p ! 1;
  yz = s.yz ⊕ p ! 1 ⊗ p ! 2;
  xx = s.xx ⊕ p ! 0 ⊗ p ! 0;
  yy = s.yy ⊕ p ! 1 ⊗ p ! 1;
  x = s.x ⊕ p ! 0;
  y = s.y ⊕ p ! 1;
  xz = s.xz ⊕ p ! 0 ⊗ p ! 2;
  zz = s.zz ⊕ p ! 2 ⊗ p ! 2;
  z = s.z ⊕ p ! 2;
}

-- of the first n points of a list, three numbers each, in order
unfoldable pub sums_of : ℕ → List Float → Sums
sums_of zero p = none
sums_of (suc n) p = with_point (sums_of n p) (column 3 p n)
