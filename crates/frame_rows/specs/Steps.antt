-- What the functions have on the way: the rows by a root, and columns of four written at even steps. Definitions only.
use Rattle.std.specs.Prelude.{ℕ, zero, suc, ◌+◌, ◌*◌, ◌≤◌, ◌≡◌, length, drop, List, [], ◌∷◌, ◌++◌, ◌⊎◌, Float}
use Rattle.sums.specs.Sum.{◌⊗◌, zero_f, tab, dot, grid}
use Rattle.sums.specs.Fill.{written}
use Rattle.derivative.specs.Derivative.{d_an, d_along}
use Rattle.derivative.specs.Action.{action_size}
use Rattle.decomposition.specs.Axes.{DECOMPOSITION}
use Rattle.point_moments.specs.Scatter.{CENTRED}
use Rattle.plane_fit.specs.Fit.{frame_count}
use Rattle.frame_rows.specs.Rows.{frame_row, jacobian_of}
use Rattle.frame_roots.specs.declared.Root.{Root}
use Rattle.frame_rows.specs.declared.Fitted.{Fitted}

-- the four rows for v and s
abbrev pub rows_of : Root → List Float → Float → Float → List Float
rows_of r v s info = (dot 3 r.first v ⊗ info) ∷ (dot 3 r.second v ⊗ info) ∷ (dot 3 r.third v ⊗ info) ∷ (r.last ⊗ s ⊗ info) ∷ []

-- the four rows of column c of a frame's block
abbrev pub column_of : List Float → List Float → List Float → Root → Float → ℕ → List Float
column_of x n mean root info c = rows_of root (tab 3 (λ l. d_an x n l c)) (d_along x n mean c) info

-- the first n columns, column c of four numbers at the place `from` + c·stride
unfoldable pub put_columns : List Float → ℕ → ℕ → (ℕ → ℕ → Float) → ℕ → List Float
put_columns out from stride f zero = out
put_columns out from stride f (suc c) = written (put_columns out from stride f c) (from + c * stride) 4 (f c)

-- the first n columns of the blocks of so many frames from `from` on, column after column: a block lies `width` columns and four rows after the one before
unfoldable pub put_blocks : List Float → ℕ → ℕ → ℕ → ℕ → (ℕ → ℕ → ℕ → Float) → ℕ → List Float
put_blocks out from width rows size f zero = out
put_blocks out from width rows size f (suc c) =
    put_columns (put_blocks out from width rows size f c) ((from * width + c) * rows + from * 4) (width * rows + 4) (f c) size

-- +0 in the columns of so many frames from `from` on, which lie side by side
abbrev pub cleared : List Float → ℕ → ℕ → ℕ → ℕ → List Float
cleared out from width rows size = written out (from * width * rows) (size * width * rows) (λ k. zero_f)

-- what the work on all frames asks of the lists: an action and a decomposition for each, and outputs of the right lengths, with so many columns a frame
pub record Room (frames actions : List Float) (ds : List ℕ) (residuals cells width : ℕ) : Type 0 where
  pub actions_whole : length actions ≡ action_size * frame_count frames
  pub ds_enough : (frame_count frames + 1) * DECOMPOSITION ≤ length ds
  pub residual_whole : residuals ≡ (frame_count frames + 1) * 4
  pub jacobian_whole : cells ≡ frame_count frames * width * ((frame_count frames + 1) * 4)
  pub narrow : width ≤ 9

-- and on the fixed set, after so many frames
pub record FixedRoom (fixed : List Float) (ds : List ℕ) (count residuals : ℕ) : Type 0 where
  pub fixed_whole : (length fixed ≡ 0) ⊎ (length fixed ≡ CENTRED)
  pub own_decomposition : (length fixed ≡ 0 → ⊥) → (count + 2) * DECOMPOSITION ≤ length ds
  pub residual_whole : residuals ≡ (count + 1) * 4

-- all frames' residuals, before the fixed set's; and their blocks
pub record FramesWritten (frames actions : List Float) (ds : List ℕ) (p : Fitted) (width : ℕ) (residual residual' jacobian' : List Float) : Type 0 where
  pub residual_is : residual' ≡ grid 4 (frame_count frames) (frame_row frames actions ds p.plane.normal p.plane.offset p.info) ++ drop (frame_count frames * 4) residual
  pub jacobian_is : jacobian' ≡ jacobian_of frames actions ds p.plane.normal p.info width
