-- How the block of one frame fills up, rectangle after rectangle. Definitions only.
use Rattle.std.specs.Prelude.{ℕ, ◌+◌, ◌*◌, ◌<◌, ◌≤◌, ◌≡◌, ◌&&◌, cond, List, length, Float}
use Rattle.lists.specs.Part.{◌!◌}
use Rattle.terms.specs.Terms.{cell_of, within}
use Rattle.map_plane.specs.Linearize.{state_column}
use Rattle.bundle_points.specs.Points.{most_points}

-- state column c of the point at row k
unfoldable pub state_cell : ℕ → List Float → List Float → Float → ℕ → ℕ → Float
state_cell dof state n info k c = state_column info n state (k * dof + c)

-- `count` rows from row `from` on are f's in `width` columns from column `first` on; every other cell is as it was
pub record Put (rows cols from count first width : ℕ) (f : ℕ → ℕ → Float) (j j' : List Float) : Type 0 where
  pub size : length j' ≡ length j
  pub cells : (k c : ℕ) → k < rows → c < cols → j' ! cell_of rows k c ≡ cond (within first width c && within from count k) (f k c) (j ! cell_of rows k c)

-- a block of dof columns, the rows that are written, and their points' state columns
pub record Room (dof rows from count state cells : ℕ) : Type 0 where
  pub narrow : dof ≤ 9
  pub low : rows ≤ most_points
  pub fits : from + count ≤ rows
  pub enough : (from + count) * dof * 3 ≤ state
  pub whole : cells ≡ dof * rows
