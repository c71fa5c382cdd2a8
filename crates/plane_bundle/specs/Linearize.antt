-- The call that linearizes a bundle: why it is refused, and the residuals and the Jacobian that it leaves. Definitions only.
use Rattle.std.specs.Prelude.{ℕ, ◌*◌, Bool, not, ◌||◌, ◌&&◌, cond, List, [], ◌∷◌, ◌++◌, ltb, eqb, length, replicate, Float}
use Rattle.std.specs.Float.{binary64}
use Rattle.std.specs.Float.Ieee.{div}
use Rattle.refusals.specs.Refusal.{◌when◌, first_of, wrong_length, Answered}
use Rattle.sums.specs.Sum.{zero_f, tab, grid}
use Rattle.validate.specs.Finite.{finite_positive}
use Rattle.decomposition.specs.Axes.{DECOMPOSITION, rising_of}
use Rattle.decomposition.specs.Gaps.{one, points_plane}
use Rattle.derivative.specs.Action.{most_dof}
use Rattle.bundle_points.specs.Points.{centroid}
use Rattle.bundle_rows.specs.Rows.{total, residual_at, jacobian_cell}
use Rattle.plane_bundle.specs.Calls.{row_count, bundle_reasons}

-- what the call is handed, beside what it writes
pub record Bundle : Type 0 where
  pub dof : ℕ
  pub counts : List ℕ
  pub points : List Float
  pub d_state : List Float
  pub fixed : List Float
  pub sigma : Float
  pub decomposition : List ℕ

-- N, and the columns of the Jacobian: dof a frame
abbrev pub rows : Bundle → ℕ
rows b = row_count b.counts b.fixed

abbrev pub columns : Bundle → ℕ
columns b = length b.counts * b.dof

-- 3, of what is handed in beside counts and points: three numbers for each state column of a site point, one decomposition, a residual a row, and a
-- Jacobian of all cells or of none, which means not wanted
unfoldable pub bad_rows : Bundle → ℕ → ℕ → Bool
bad_rows b residuals cells =
    wrong_length ((length b.d_state, total b.counts * b.dof * 3) ∷ (length b.decomposition, DECOMPOSITION) ∷ (residuals, rows b) ∷ [])
    || (not (eqb cells 0) && not (eqb cells (columns b * rows b)))

-- "linearizing 1 to 7"
unfoldable pub linearize_refusal : Bundle → ℕ → ℕ → ℕ
linearize_refusal b residuals cells =
    first_of (1 when ltb most_dof b.dof ∷ bundle_reasons b.counts b.points b.fixed (bad_rows b residuals cells) ++ (7 when not (finite_positive b.sigma) ∷ []))

-- the residuals and the Jacobian under the plane through the centroid; a Jacobian that is not wanted stays as it is
unfoldable pub under_plane : Bundle → List Float → List Float × List Float
under_plane b old =
    let all = b.points ++ b.fixed in
    let n = (rising_of b.decomposition).normal in
    let info = div binary64 one b.sigma in (
      tab (rows b) (residual_at all (centroid all) n info),
      cond (eqb (length old) 0) old (grid (rows b) (columns b) (jacobian_cell b.counts b.dof b.d_state n info)),
    )

-- without a plane every residual and every cell is +0
unfoldable pub linearized : Bundle → List Float → List Float → List Float × List Float
linearized b residual jacobian =
    cond (points_plane (rising_of b.decomposition)) (under_plane b jacobian) (replicate (length residual) zero_f, replicate (length jacobian) zero_f)

-- the call with the answer r: residuals and Jacobian before, and after
abbrev pub Linearizes : Bundle → List Float → List Float → ℕ → List Float → List Float → Type 0
Linearizes b residual jacobian r residual' jacobian' =
    Answered (linearize_refusal b (length residual) (length jacobian)) r (residual, jacobian) (residual', jacobian') (linearized b residual jacobian)
