-- The loop over the batches: what it has after so many frames, before the first, after one more batch, and at the end. Assumes nothing.
use Rattle.std.specs.Prelude.{ℕ, zero, suc, ◌+◌, ◌*◌, ◌<◌, ◌≤◌, ◌≡◌, List, [], ◌++◌, length, take, drop, Float}
use Rattle.std.proofs.Common.{add-zero, arith, ap, ◌∙◌, length-append, length-drop, drop_of_length-le, take_at}
use Rattle.sums.specs.Sum.{grid}
use Rattle.sums.specs.Laws.{length-grid}
use Rattle.sums.specs.Fill.{written, Columns, columns-none, columns_more}
use Rattle.lists.specs.Part.{◌!◌}
use Rattle.batches.specs.Beside.{beside_of, Beside}
use Rattle.plane_fit.specs.Fit.{frame_count}
use Rattle.frame_rows.specs.Rows.{frame_row, fixed_row, block_cell, residual_of, jacobian_of}
use Rattle.frame_rows.specs.Steps.{put_columns, put_blocks, cleared, Room, FramesWritten}
use Rattle.frame_roots.specs.Batch.{BATCH, root_in, Rooted, rooted_is}
use Rattle.frame_rows.specs.Batch.{residual_rows, column_rows}
use Rattle.frame_rows.specs.Laws.{put_same, blocks_same}
use Rattle.frame_rows.proofs.Cells.{Partly, partly_none, partly_batch, partly_all}
use Rattle.frame_rows.proofs.Frames.{frame_four, block-four}
use Rattle.frame_rows.specs.declared.Fitted.{Fitted}

-- so many columns more
columns_batch : (cols : ℕ) (f : ℕ → ℕ → Float) (l out : List Float) (from size : ℕ) → length l ≡ cols * 4 → from + size ≤ cols → Columns 4 cols f l out from → Columns 4 cols f l (put_columns out (from * 4) 4 (λ k r. f r (from + k)) size) (from + size)
unfolding put_columns
columns_batch cols f l out from zero n h p = rw add-zero p
columns_batch cols f l out from (suc k) n h p =
    let e : from * 4 + k * 4 ≡ (from + k) * 4 = omega arith in
    let s : from + k + 1 ≡ from + suc k = omega arith in
    rw s at (columns_more 4 cols f l _ _ (from + k) n (omega arith) (columns_batch cols f l out from k n (omega arith) p) (ap (λ i. written (put_columns out (from * 4) 4 (λ k r. f r (from + k)) k) i 4 (λ r. f r (from + k))) e))

module _ (frames actions : List Float) (ds : List ℕ) (p : Fitted) where
  -- what is to be written
  abbrev row_of : ℕ → ℕ → Float
  row_of = frame_row frames actions ds p.plane.normal p.plane.offset p.info

  abbrev cell_of : ℕ → ℕ → ℕ → Float
  cell_of = block_cell frames actions ds p.plane.normal p.info

  module _ (width : ℕ) (residual jacobian : List Float) where
    pub record Lined (residual' jacobian' : List Float) (k : ℕ) : Type 0 where
      pub rows : Columns 4 (frame_count frames + 1) row_of residual residual' k
      pub cells : Partly frames actions ds p.plane.normal p.info (frame_count frames) width k (λ g d. k ≤ g) jacobian'

    module _ (room : Room frames actions ds (length residual) (length jacobian) width) where
      pub lined_none : Lined residual jacobian 0
      lined_none = record {
        rows = columns-none _ _ _ _;
        cells = partly_none frames actions ds p.plane.normal p.info (frame_count frames) width jacobian room.jacobian_whole;
      }

      module _ (residual' jacobian' : List Float) (from : ℕ) (sofar : Lined residual' jacobian' from) where
        pub lined_more : (residual'' jacobian'' : List Float) (size : ℕ) (roots cells : List Float) → from + size ≤ frame_count frames → Rooted frames ds from size roots
            → Beside BATCH 4 (λ k. residual_rows frames actions p (root_in roots k) (from + k)) size cells
            → residual'' ≡ put_columns residual' (from * 4) 4 (λ k r. beside_of BATCH 4 cells k ! r) size
            → jacobian'' ≡ put_blocks (cleared jacobian' from width (length residual) size) from width (length residual) size (λ c k r. column_rows frames actions p c (root_in roots k) (from + k) ! r) width
            → Lined residual'' jacobian'' (from + size)
        lined_more residual'' jacobian'' size roots cells h rooted held hr hj =
            let row : (k : ℕ) → k < size → (r : ℕ) → r < 4 → beside_of BATCH 4 cells k ! r ≡ row_of r (from + k)
            = λ k l r b. ap (λ (v : List Float). v ! r) (held.each k l) ∙ frame_four frames actions ds p (from + k) _ (rooted_is frames ds from rooted k l) r b in
            let block : (c k : ℕ) → k < size → (r : ℕ) → r < 4 → column_rows frames actions p c (root_in roots k) (from + k) ! r ≡ cell_of (from + k) c r
            = λ c k l r b. block-four frames actions ds p (from + k) _ (rooted_is frames ds from rooted k l) c r b in
            record {
              rows = rw (hr, put_same residual' (from * 4) 4 _ (λ k r. row_of r (from + k)) size row) (columns_batch (frame_count frames + 1) row_of residual residual' from size room.residual_whole (omega arith) sofar.rows);
              cells = rw (hj, blocks_same (cleared jacobian' from width (length residual) size) from width (length residual) size _ (λ c k r. cell_of (from + k) c r) width block, room.residual_whole) (partly_batch frames actions ds p.plane.normal p.info (frame_count frames) width from size h jacobian' sofar.cells);
            }

        pub lined_all : from ≡ frame_count frames → FramesWritten frames actions ds p width residual residual' jacobian'
        unfolding jacobian_of
        lined_all e = record {
          residual_is = rw e at sofar.rows.filled;
          jacobian_is = partly_all frames actions ds p.plane.normal p.info (frame_count frames) width jacobian' from (omega arith) sofar.cells;
        }

-- the frames' rows, then the fixed set's
pub rows_all : (frames fixed actions : List Float) (ds : List ℕ) (n : List Float) (offset info : Float) (residual residual' residual'' : List Float) → length residual ≡ (frame_count frames + 1) * 4
    → residual' ≡ grid 4 (frame_count frames) (frame_row frames actions ds n offset info) ++ drop (frame_count frames * 4) residual
    → residual'' ≡ written residual' (frame_count frames * 4) 4 (fixed_row (frame_count frames) fixed ds n offset info)
    → residual'' ≡ residual_of frames fixed actions ds n offset info
unfolding residual_of written
rows_all frames fixed actions ds n offset info residual residual' residual'' size e f =
    let at = frame_count frames * 4 in
    let front = grid 4 (frame_count frames) (frame_row frames actions ds n offset info) in
    let m : length front ≡ at = length-grid 4 (frame_count frames) _ in
    let left : take at residual' ≡ front = rw e (take_at front (drop at residual) at m) in
    let long : length residual' ≤ at + 4 = rw e (simp (length-append, length-drop, m) (omega arith)) in
    let rest : drop (at + 4) residual' ≡ [] = drop_of_length-le residual' long in
    f ∙ rw (left, rest)
