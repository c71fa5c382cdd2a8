-- The fit's answer: the axis of least scatter with its offset, or no plane. Its definition, and the law of the maximum in its rule; assumes nothing.
use Rattle.std.specs.Prelude.{◌≡◌, refl, true, false, cond, Option, Some, None, List, ℕ, Float}
use Rattle.std.specs.Float.{nan, inf, fin, binary64}
use Rattle.std.specs.Float.Ieee.{of_bits, sub, neg, lt}
use Rattle.sums.specs.Sum.{◌⊗◌, dot}
use Rattle.decomposition.specs.Axes.{rising_of}
use Rattle.decomposition.specs.Gaps.{MIN_EIGEN_GAP, one, absolute, at_least_one, frames_plane}
use Rattle.decomposition.specs.declared.Axes.{Axes}
use Rattle.plane.specs.declared.Plane.{Plane}

-- "With gap = second - first, it gives a plane exactly if gap > 1e-14 × max(|third|, 1)": the vector of the first eigenvalue, and -(Σ n_r·mean_r)
unfoldable pub smallest_axis : List ℕ → List Float → Option Plane
smallest_axis d mean =
    let a = rising_of d in
    cond (frames_plane a) (Some (record { normal = a.normal; offset = neg (dot 3 a.normal mean) })) None

-- ---- the maximum by comparisons
abbrev minus_one : Float
minus_one = neg one

pub above : (x : Float) → lt one x ≡ true → x ≡ at_least_one x
unfolding at_least_one absolute lt of_bits
above nan h = cc
above (inf false) h = refl
above (inf true) h = cc
above (fin false m e) h = rw h
above (fin true m e) h = cc

pub below : (x : Float) → lt x minus_one ≡ true → neg x ≡ at_least_one x
unfolding at_least_one absolute lt neg of_bits
below nan h = cc
below (inf false) h = cc
below (inf true) h = refl
below (fin false m e) h = cc
below (fin true m e) h = rw h

pub between : (x : Float) → lt one x ≡ false → lt x minus_one ≡ false → one ≡ at_least_one x
unfolding at_least_one absolute lt neg of_bits
between nan h k = refl
between (inf false) h k = cc
between (inf true) h k = cc
between (fin false m e) h k = rw h
between (fin true m e) h k = rw k

-- ---- the two answers, of a decomposition that was sorted and a bound and a sum that were worked out
module _ (d : List ℕ) (mean : List Float) (a : Axes) (b : Float) (sorted : a ≡ rising_of d) (bound : b ≡ at_least_one a.third) where
  pub found : (along : Float) → along ≡ dot 3 a.normal mean → lt (MIN_EIGEN_GAP ⊗ b) (sub binary64 a.second a.first) ≡ true
      → Some (record { normal = a.normal; offset = neg along }) ≡ smallest_axis d mean
  unfolding smallest_axis frames_plane
  found along e h = let g = rw bound at h in rw (← sorted, e, g)

  pub none : lt (MIN_EIGEN_GAP ⊗ b) (sub binary64 a.second a.first) ≡ false → None ≡ smallest_axis d mean
  unfolding smallest_axis frames_plane
  none h = let g = rw bound at h in rw (← sorted, g)
