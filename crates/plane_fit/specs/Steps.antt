-- What the loops of the fit have after k frames, and one frame more. Assumes nothing.
use Rattle.std.specs.Prelude.{◌≡◌, refl, ℕ, ◌+◌, length, List, [], ◌∷◌, ◌++◌, Float}
use Rattle.std.proofs.Common.{ap₂, add-one, suc-ne-zero}
use Rattle.std.specs.Float.{binary64}
use Rattle.std.specs.Float.Ieee.{sub}
use Rattle.sums.specs.Sum.{◌⊕◌, ◌⊗◌, sum_from_zero, tab, plus, divided, grid}
use Rattle.lists.specs.Part.{◌!◌, part}
use Rattle.point_moments.specs.Scatter.{centred_of}
use Rattle.point_moments.specs.declared.scatter.Centred.{Centred}
use Rattle.plane_fit.specs.declared.Weighted.{Weighted}
use Rattle.plane_fit.specs.Fit.{centre, turned, spread, frame_at, action_at, frame_count, count_at, weighted_at, spread_at, total, weighted, fit_mean, scatter_about, fit_scatter, fit_list}

-- o = w - mean
abbrev pub difference : List Float → List Float → List Float
difference w mean = tab 3 (λ r. sub binary64 (w ! r) (mean ! r))

-- with a set of n points whose mean is w
abbrev pub with_set : Weighted → List Float → Float → Weighted
with_set s w n = record { total = s.total ⊕ n; sum = tab 3 (λ r. s.sum ! r ⊕ w ! r ⊗ n) }

abbrev pub mean_of : Weighted → List Float
mean_of s = divided 3 s.sum s.total

abbrev pub weighed : List Float → List Float → ℕ → Weighted
weighed frames actions k = record { total = sum_from_zero k (count_at frames); sum = tab 3 (λ r. sum_from_zero k (weighted_at frames actions r)) }

abbrev pub spread_upto : List Float → List Float → List Float → ℕ → List Float
spread_upto frames actions mean k = grid 3 3 (λ r c. sum_from_zero k (spread_at frames actions mean r c))

-- the part of frame k, and the scatter with it
abbrev pub spread_part : List Float → List Float → List Float → ℕ → List Float
spread_part frames actions mean k = grid 3 3 (λ r c. spread_at frames actions mean r c k)

pub spread_more : (frames actions mean s part : List Float) (k : ℕ) → s ≡ spread_upto frames actions mean k → part ≡ spread_part frames actions mean k → plus 9 s part ≡ spread_upto frames actions mean (k + 1)
spread_more frames actions mean s part k e f = rw (e, f, add-one k)

pub part_is : (frames actions mean x : List Float) (f : Centred) (k : ℕ) → x ≡ action_at actions k → f ≡ frame_at frames k → grid 3 3 (spread (turned x f) (centre x f) f.count mean) ≡ spread_part frames actions mean k
unfolding spread_at
part_is frames actions mean x f k e g = ap₂ (λ (y : List Float) (h : Centred). grid 3 3 (spread (turned y h) (centre y h) h.count mean)) e g

-- ---- with the fixed set, or without one

pub mean-none : (frames fixed actions : List Float) → length fixed ≡ 0 → mean_of (weighed frames actions (frame_count frames)) ≡ fit_mean frames fixed actions
unfolding fit_mean weighted total
mean-none frames [] actions h = refl
mean-none frames (x ∷ l) actions h = absurd (suc-ne-zero (length l) h)

pub mean-some : (frames fixed actions : List Float) → (length fixed ≡ 0 → ⊥) → mean_of (with_set (weighed frames actions (frame_count frames)) (centred_of fixed).mean (centred_of fixed).count) ≡ fit_mean frames fixed actions
unfolding fit_mean weighted total
mean-some frames [] actions h = absurd (h refl)
mean-some frames (x ∷ l) actions h = refl

pub scatter-none : (frames fixed actions mean : List Float) → length fixed ≡ 0 → spread_upto frames actions mean (frame_count frames) ≡ grid 3 3 (scatter_about frames fixed actions mean)
unfolding scatter_about
scatter-none frames [] actions mean h = refl
scatter-none frames (x ∷ l) actions mean h = absurd (suc-ne-zero (length l) h)

pub scatter-some : (frames fixed actions mean : List Float) → (length fixed ≡ 0 → ⊥) → plus 9 (spread_upto frames actions mean (frame_count frames)) (grid 3 3 (spread (centred_of fixed).scatter (centred_of fixed).mean (centred_of fixed).count mean)) ≡ grid 3 3 (scatter_about frames fixed actions mean)
unfolding scatter_about
scatter-some frames [] actions mean h = absurd (h refl)
scatter-some frames (x ∷ l) actions mean h = refl

-- mean and scatter as a host is told them
pub told_is : (frames fixed actions mean s : List Float) → mean ≡ fit_mean frames fixed actions → s ≡ grid 3 3 (scatter_about frames fixed actions mean) → part 3 mean 0 ++ part 9 s 0 ≡ fit_list frames fixed actions
unfolding fit_mean fit_scatter
told_is frames fixed actions mean s e f = rw (f, e)
