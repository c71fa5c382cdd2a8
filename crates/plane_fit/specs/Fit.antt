-- The mean and the scatter that a plane is fitted to, over the frames and then the fixed set. Definitions only.
-- frames: centred frames one after the other. fixed: nothing, or one centred frame in site coordinates. actions: one for each frame.
-- A vector is a list of three numbers, a matrix a list of nine, by columns.
use Rattle.std.specs.Prelude.{ℕ, ◌*◌, ◌/◌, ◌≡◌, ◌⊎◌, List, [], ◌∷◌, ◌++◌, length, Float}
use Rattle.std.proofs.Common.{⊎_elim}
use Rattle.std.specs.Float.{binary64}
use Rattle.std.specs.Float.Ieee.{div, sub}
use Rattle.sums.specs.Sum.{◌⊕◌, ◌⊗◌, sum_to, sum_from_zero, tab, grid, at}
use Rattle.lists.specs.Part.{◌!◌}
use Rattle.derivative.specs.Action.{action_size, action_matrix}
use Rattle.action.specs.Carried.{carried}
use Rattle.point_moments.specs.declared.scatter.Centred.{Centred}
use Rattle.point_moments.specs.Scatter.{CENTRED, centred_of}
use Rattle.plane_fit.specs.Records.{record_of}

-- ---- one set

-- w = A·mean + b, the frame's mean carried into the site by the action x
abbrev pub centre : List Float → Centred → List Float
centre x f = carried x f.mean

-- A·S·Aᵀ, whose entry is Σ_k (Σ_l A(r,l)·S(l,k))·A(c,k): the frame's scatter turned by the action
abbrev pub turned : List Float → Centred → List Float
turned x f = grid 3 3 (λ r c. sum_to 3 (λ k. sum_to 3 (λ l. action_matrix x r l ⊗ at 3 f.scatter l k) ⊗ action_matrix x c k))

-- s(r,c) + (o_r·o_c)·count with o = w - mean: the scatter about `mean` of a set with the scatter s about its own mean w
abbrev pub spread : List Float → List Float → Float → List Float → ℕ → ℕ → Float
spread s w count mean r c = at 3 s r c ⊕ sub binary64 (w ! r) (mean ! r) ⊗ sub binary64 (w ! c) (mean ! c) ⊗ count

-- what a fixed set adds to a sum; nothing where there is none. No action touches it
abbrev pub and_fixed : List Float → (Centred → Float) → Float → Float
and_fixed [] term sum = sum
and_fixed (x ∷ l) term sum = sum ⊕ term (centred_of (x ∷ l))

-- ---- the frames

abbrev pub frame_count : List Float → ℕ
frame_count frames = length frames / CENTRED

-- frame k and its action
abbrev pub frame_at : List Float → ℕ → Centred
frame_at frames k = centred_of (record_of CENTRED frames k)

abbrev pub action_at : List Float → ℕ → List Float
action_at actions k = record_of action_size actions k

-- what frame k adds to the total count, to the weighted centre and to the scatter
unfoldable pub count_at : List Float → ℕ → Float
count_at frames k = (frame_at frames k).count

unfoldable pub weighted_at : List Float → List Float → ℕ → ℕ → Float
weighted_at frames actions r k = centre (action_at actions k) (frame_at frames k) ! r ⊗ (frame_at frames k).count

unfoldable pub spread_at : List Float → List Float → List Float → ℕ → ℕ → ℕ → Float
spread_at frames actions mean r c k =
    spread (turned (action_at actions k) (frame_at frames k)) (centre (action_at actions k) (frame_at frames k)) (frame_at frames k).count mean r c

-- ---- the fit

-- total = Σ₀ counts, then the fixed count
unfoldable pub total : List Float → List Float → Float
total frames fixed = and_fixed fixed (λ f. f.count) (sum_from_zero (frame_count frames) (count_at frames))

-- weighted_r = Σ₀ w_r·count, then fixedmean_r·fixedcount
unfoldable pub weighted : List Float → List Float → List Float → ℕ → Float
weighted frames fixed actions r =
    and_fixed fixed (λ f. f.mean ! r ⊗ f.count) (sum_from_zero (frame_count frames) (weighted_at frames actions r))

-- mean_r = weighted_r / total
unfoldable pub fit_mean : List Float → List Float → List Float → List Float
fit_mean frames fixed actions = tab 3 (λ r. div binary64 (weighted frames fixed actions r) (total frames fixed))

-- scatter(r,c) = Σ₀ of the frames' parts, then the fixed set's; neither divided nor symmetrised
unfoldable pub scatter_about : List Float → List Float → List Float → List Float → ℕ → ℕ → Float
scatter_about frames fixed actions mean r c =
    and_fixed fixed (λ f. spread f.scatter f.mean f.count mean r c)
    (sum_from_zero (frame_count frames) (spread_at frames actions mean r c))

unfoldable pub fit_scatter : List Float → List Float → List Float → List Float
fit_scatter frames fixed actions = grid 3 3 (scatter_about frames fixed actions (fit_mean frames fixed actions))

-- what a host is told: the mean, then the scatter
abbrev pub fit_list : List Float → List Float → List Float → List Float
fit_list frames fixed actions = fit_mean frames fixed actions ++ fit_scatter frames fixed actions

-- ---- what the work asks of the lists: whole records, an action for each frame
pub record Shaped (frames fixed actions : List Float) : Type 0 where
  pub count : ℕ
  pub frames_whole : length frames ≡ CENTRED * count
  pub actions_whole : length actions ≡ action_size * count
  pub fixed_whole : (length fixed ≡ 0) ⊎ (length fixed ≡ CENTRED)

-- a fixed slice that is not empty is one record
pub fixed_record : {frames fixed actions : List Float} → Shaped frames fixed actions → (length fixed ≡ 0 → ⊥) → length fixed ≡ CENTRED
fixed_record s h = ⊎_elim (λ e. absurd (h e)) (λ e. e) s.fixed_whole
