-- What only private functions cite. Definitions only.
use Rattle.std.specs.Prelude.{[], ◌∷◌, Float}
use Rattle.point_sums.specs.declared.Sums.{Sums}
use Rattle.point_moments.specs.declared.PointMoments.{PointMoments}

-- the moments that have these sums: each product of two different coordinates stands twice
abbrev pub of_sums : Float → Sums → PointMoments
of_sums n s = record {
  count = n;
  sum = s.x ∷ s.y ∷ s.z ∷ [];
  outer = s.xx ∷ s.xy ∷ s.xz ∷ s.xy ∷ s.yy ∷ s.yz ∷ s.xz ∷ s.yz ∷ s.zz ∷ [];
}
