-- When a decomposition has a plane. Three callers ask, each by its own rule on the gap between the two least eigenvalues. Definitions only.
--
--   who asks               it is a plane                       gap at the bound   NaN gap
--   the plane of moments   unless gap < 1e-14                  plane              plane
--   the fit of frames      if gap > 1e-14 · max(|third|, 1)    none               none
--   the fit of points      unless gap < 1e-12                  plane              plane
use Rattle.std.specs.Prelude.{Bool, false, not, cond, Float}
use Rattle.std.specs.Float.{nan, inf, fin, binary64}
use Rattle.std.specs.Float.Ieee.{of_bits, sub, lt}
use Rattle.sums.specs.Sum.{◌⊗◌}
use Rattle.decomposition.specs.declared.Axes.{Axes}

-- second - first
abbrev pub gap : Axes → Float
gap a = sub binary64 a.second a.first

-- 1e-14, 1e-12 and 1, by their bits
abbrev pub MIN_EIGEN_GAP : Float
MIN_EIGEN_GAP = of_bits binary64 0x3d06_849b_86a1_2b9b

abbrev pub MIN_POINTS_GAP : Float
MIN_POINTS_GAP = of_bits binary64 0x3d71_9799_812d_ea11

abbrev pub one : Float
one = of_bits binary64 0x3ff0_0000_0000_0000

-- |x|
unfoldable pub absolute : Float → Float
absolute nan = nan
absolute (inf s) = inf false
absolute (fin s m e) = fin false m e

-- max(|x|, 1), "where a NaN counts as 1 in the maximum"
unfoldable pub at_least_one : Float → Float
at_least_one x = cond (lt one (absolute x)) (absolute x) one

-- unless gap < bound: at the bound, and with a NaN gap, it is a plane
abbrev pub not_below : Float → Axes → Bool
not_below bound a = not (lt (gap a) bound)

-- the plane of moments
unfoldable pub moments_plane : Axes → Bool
moments_plane a = not_below MIN_EIGEN_GAP a

-- the fit of frames
unfoldable pub frames_plane : Axes → Bool
frames_plane a = lt (MIN_EIGEN_GAP ⊗ at_least_one a.third) (gap a)

-- the fit of points
unfoldable pub points_plane : Axes → Bool
points_plane a = not_below MIN_POINTS_GAP a
