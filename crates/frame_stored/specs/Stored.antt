-- A frame's block and vector as numbers, side by side, row after row (`transform_products`). Definitions only.
use Rattle.std.specs.Prelude.{ℕ, ◌<◌, ◌≡◌, List, length, Float}
use Rattle.sums.specs.Sum.{◌⊕◌, ◌⊗◌}
use Rattle.lists.specs.Part.{◌!◌}
use Rattle.point_moments.specs.declared.scatter.Centred.{Centred}
use Rattle.frame_segment.specs.declared.Rows.{Rows}
use Rattle.frame_segment.specs.Frame.{block_entry, pulled_entry}
use Rattle.transform_products.specs.Rows.{rows_of, spaced}

-- entry j of a row: ((s0·d0_j + s1·d1_j + s2·d2_j) + (t·m_j)·count)·weight
unfoldable pub row_entry : Rows → List Float → Float → Float → Float → ℕ → Float
row_entry r s t count weight j = ((s ! 0) ⊗ (r.d0 ! j) ⊕ (s ! 1) ⊗ (r.d1 ! j) ⊕ (s ! 2) ⊗ (r.d2 ! j) ⊕ t ⊗ (r.m ! j) ⊗ count) ⊗ weight

-- the block and the vector of a frame f under a plane n, with its pull s and t
pub record FrameStored (x : List Float) (f : Centred) (n s : List Float) (t weight : Float) (width stride : ℕ) (out : List Float) : Type 0 where
  pub block_is : (i j : ℕ) → i < width → j < width → rows_of stride out i j ≡ block_entry x f n weight i j
  pub vector_is : (i : ℕ) → i < width → spaced stride out width i ≡ pulled_entry x f n s t weight i
  pub size : length out ≡ 90
