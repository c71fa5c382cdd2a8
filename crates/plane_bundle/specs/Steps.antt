-- The tests that look at lengths and counts alone, and what is known where they do not apply. Definitions only.
use Rattle.std.specs.Prelude.{ℕ, ◌*◌, ◌≤◌, ◌≡◌, Bool, not, ◌||◌, ◌&&◌, cond, List, [], ◌∷◌, ltb, eqb, length, Float}
use Rattle.refusals.specs.Refusal.{◌when◌, first_of, wrong_length}
use Rattle.decomposition.specs.Axes.{DECOMPOSITION}
use Rattle.derivative.specs.Action.{most_dof}
use Rattle.plane_fit.specs.Calls.{most_frames}
use Rattle.bundle_points.specs.Points.{point_count}
use Rattle.bundle_points.specs.Steps.{Taken}
use Rattle.bundle_rows.specs.Rows.{total}
use Rattle.plane_bundle.specs.Calls.{bad_points, some_empty, too_few}
use Rattle.plane_bundle.specs.Linearize.{Bundle, rows, columns}

-- 4 and 5, by the number of rows
unfoldable pub count_refusal : List ℕ → ℕ → ℕ
count_refusal counts rows = first_of (4 when some_empty counts ∷ 5 when ltb rows 3 ∷ [])

-- 2 to 5
unfoldable pub shape_refusal : List ℕ → List Float → List Float → Bool → ℕ
shape_refusal counts points fixed misfit =
    first_of
    (2 when eqb (length counts) 0 ∷
    3 when (bad_points counts points fixed || misfit) ∷
    4 when some_empty counts ∷
    5 when too_few counts fixed ∷ [])

-- 1 to 5
unfoldable pub linearize_shape : ℕ → List ℕ → List Float → List Float → Bool → ℕ
linearize_shape dof counts points fixed misfit = cond (ltb most_dof dof) 1 (shape_refusal counts points fixed misfit)

-- 3, of what is handed to linearizing beside counts and points, by numbers of frames, site points and rows
unfoldable pub bad_sizes : ℕ → ℕ → ℕ → ℕ → ℕ → ℕ → ℕ → ℕ → Bool
bad_sizes dof frames site rows state patterns residuals cells =
    wrong_length ((state, site * dof * 3) ∷ (patterns, DECOMPOSITION) ∷ (residuals, rows) ∷ []) || (not (eqb cells 0) && not (eqb cells (frames * dof * rows)))

-- 1 to 5 of a call, as the code tests them
abbrev pub shape_of : Bundle → ℕ → ℕ → ℕ
shape_of b residuals cells =
    linearize_shape b.dof b.counts b.points b.fixed (bad_sizes b.dof (length b.counts) (total b.counts) (rows b) (length b.d_state) (length b.decomposition) residuals cells)

-- counts and points that fit together
pub record Shaped (counts : List ℕ) (points fixed : List Float) : Type 0 where
  pub frames : length counts ≤ most_frames
  pub counted : point_count points ≡ total counts
  pub taken : Taken points fixed

-- and all that linearizing is handed
pub record Fitting (b : Bundle) (residuals cells : ℕ) : Type 0 where
  pub narrow : b.dof ≤ most_dof
  pub shaped : Shaped b.counts b.points b.fixed
  pub state_whole : length b.d_state ≡ total b.counts * b.dof * 3
  pub patterns_whole : length b.decomposition ≡ DECOMPOSITION
  pub residuals_whole : residuals ≡ rows b
  pub cells_whole : (cells ≡ 0 → ⊥) → cells ≡ columns b * rows b
