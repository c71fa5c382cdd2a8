-- Laws of a frame's block and vector that are stored row after row. Assumes nothing.
use Prim.Native.Nat.{ℕ, ◌+◌}
use native.Mathlib.Omega.{arith}
use mathlib.Core.Path.{◌≡◌, refl, ap, ◌∙◌}
use mathlib.Core.List.{List, [], ◌∷◌}
use lib.Ieee.{Float}
use borrow.Author.Tests.{lt-ltb, le-ltb}
use Rattle.sums.specs.Fill.{padded, first_of}
use Rattle.lists.specs.Part.{◌!◌}
use Rattle.point_moments.specs.declared.scatter.Centred.{Centred}
use Rattle.point_moments.specs.Scatter.{CENTRED, centred_of}
use Rattle.plane_fit.specs.Records.{record_of}
use Rattle.plane_fit.specs.Fit.{frame_at, action_at}
use Rattle.derivative.specs.Derivative.{combined}
use Rattle.frame_segment.specs.declared.Rows.{Rows}
use Rattle.frame_segment.specs.Steps.{frame_rows, column_entry, rows_entry, rows_vector, entry_is, vector_is}
use Rattle.transform_products.specs.Rows.{row_with, spaced}
use Rattle.transform_products.specs.Rows as stored
use Rattle.frame_stored.specs.Stored.{row_entry, FrameStored}

-- entry i, j of the block, worked out of rows: the same sum of the same products
pub row_same : (r : Rows) (count weight : Float) (i j : ℕ) → row_entry r ((r.p0 ! i) ∷ (r.p1 ! i) ∷ (r.p2 ! i) ∷ []) (r.m ! i) count weight j ≡ rows_entry r count weight i j
unfolding row_entry rows_entry column_entry combined
row_same r count weight i j = refl

-- THE BLOCK AND VECTOR OF FRAME k: each premise is what one call of the code says, in the code's order
pub stores : (frames actions n s : List Float) (t weight : Float) (k : ℕ) {width stride : ℕ} {l x v out : List Float} {f : Centred} {r : Rows}
    → l ≡ record_of CENTRED frames k → f ≡ centred_of l → x ≡ action_at actions k → r ≡ frame_rows x f n width
    → v ≡ padded 9 width (rows_vector r s t weight) → stored.Rows stride (width + 1) (row_with width (rows_entry r f.count weight) (λ i. v ! i)) width out
    → FrameStored (action_at actions k) (frame_at frames k) n s t weight width stride out
unfolding row_with spaced
stores frames actions n s t weight k {width} {stride} {l} {x} {v} {out} {f} {r} el ef ex er ev rs = rw (ef ∙ ap centred_of el, ex) at here
  where
    here : FrameStored x f n s t weight width stride out
    here = record {
      block_is = λ i j li lj. rs.are i j li (omega arith) ∙ rw (lt-ltb j width lj) (entry_is x n f width er weight i j li lj);
      vector_is = λ i li. rs.are i width li (omega arith)
          ∙ rw (le-ltb width width (omega arith)) (first_of 9 width (rows_vector r s t weight) v ev i li ∙ vector_is x n f width er s t weight i li);
      size = rs.size;
    }
