-- What the callees give of one set is what the definitions say, and where its block lies in the Jacobian. Assumes nothing.
use Prim.Native.Nat.{ℕ, zero, suc, ◌+◌, ◌*◌, ◌<◌, ◌≤◌}
use Rattle.std.proofs.Common.{add-zero, add-mul, mul_assoc, mul-one, mul-le-mul_left, mul-le-mul_right, suc-mul, suc-ne-zero, not-suc-le-zero, le_of_suc-le-suc, arith, ◌∙◌}
use Rattle.std.specs.Prelude.{◌≡◌, Float}
use Rattle.std.proofs.Math.Path.{refl, ap}
use mathlib.Core.List.{List, [], ◌∷◌}
use Rattle.std.proofs.Math.ListN.{length, replicate}
use Rattle.sums.specs.Sum.{zero_f, tab}
use Rattle.derivative.specs.Derivative.{d_an, d_along}
use Rattle.sums.specs.Fill.{written, written_same, column_ends}
use Rattle.lists.specs.Part.{◌!◌}
use Rattle.action.specs.Carried.{carried}
use Rattle.point_moments.specs.Scatter.{centred_of}
use Rattle.point_moments.specs.declared.scatter.Centred.{Centred}
use Rattle.plane_fit.specs.Fit.{frame_at, action_at, frame_count}
use Rattle.frame_normal.specs.Normal.{normal_in, along_of}
use Rattle.frame_rows.specs.Rows.{set_row, frame_row, fixed_row, block_cell}
use Rattle.frame_rows.specs.Steps.{rows_of}
use Rattle.frame_rows.specs.Batch.{residual_rows, column_rows, BatchRoom}
use Rattle.frame_rows.proofs.Cells.{block-place}
use Rattle.frame_roots.specs.Roots.{root_of, decomposition_at}
use Rattle.frame_roots.specs.Batch.{root_at}
use Rattle.frame_roots.specs.declared.Root.{Root}
use Rattle.frame_rows.specs.declared.Fitted.{Fitted}

-- the four rows of a set
pub four_is : (d : List ℕ) (count : Float) (v : List Float) (s info : Float) (k : ℕ) → k < 4 → rows_of (root_of d count) v s info ! k ≡ set_row d count v s info k
unfolding set_row
four_is d count v s info zero h = refl
four_is d count v s info (suc zero) h = refl
four_is d count v s info (suc (suc zero)) h = refl
four_is d count v s info (suc (suc (suc zero))) h = refl
four_is d count v s info (suc (suc (suc (suc k)))) h =
    absurd (not-suc-le-zero (le_of_suc-le-suc (le_of_suc-le-suc (le_of_suc-le-suc (le_of_suc-le-suc h)))))

-- of frame f, by its root
module _ (frames actions : List Float) (ds : List ℕ) (p : Fitted) (f : ℕ) (root : Root) (rooted : root ≡ root_at frames ds f) where
  pub frame_four : (r : ℕ) → r < 4 → residual_rows frames actions p root f ! r ≡ frame_row frames actions ds p.plane.normal p.plane.offset p.info r f
  unfolding frame_row
  frame_four r h =
      ap (λ (q : Root). residual_rows frames actions p q f ! r) rooted
      ∙ four_is (decomposition_at ds (f + 1)) (frame_at frames f).count (normal_in (action_at actions f) p.plane.normal) (along_of p.plane.normal p.plane.offset (carried (action_at actions f) (frame_at frames f).mean)) p.info r h

  pub block-four : (c r : ℕ) → r < 4 → column_rows frames actions p c root f ! r ≡ block_cell frames actions ds p.plane.normal p.info f c r
  unfolding block_cell
  block-four c r h =
      ap (λ (q : Root). column_rows frames actions p c q f ! r) rooted
      ∙ four_is (decomposition_at ds (f + 1)) (frame_at frames f).count (tab 3 (λ l. d_an (action_at actions f) p.plane.normal l c)) (d_along (action_at actions f) p.plane.normal (frame_at frames f).mean c) p.info r h

-- of the fixed set, or where there is none
module _ (count : ℕ) (fixed : List Float) (ds : List ℕ) (n : List Float) (offset info : Float) (out : List Float) (at : ℕ) where
  pub fixed_none : length fixed ≡ 0 → written out at 4 (λ i. replicate 4 zero_f ! i) ≡ written out at 4 (fixed_row count fixed ds n offset info)
  unfolding fixed_row
  fixed_none e = written_same out at 4 _ _ (none fixed e)
    where
      none : (l : List Float) → length l ≡ 0 → (k : ℕ) → k < 4 → replicate 4 zero_f ! k ≡ fixed_row count l ds n offset info k
      none (x ∷ l) e k h = absurd (suc-ne-zero (length l) e)
      none [] e zero h = refl
      none [] e (suc zero) h = refl
      none [] e (suc (suc zero)) h = refl
      none [] e (suc (suc (suc zero))) h = refl
      none [] e (suc (suc (suc (suc k)))) h =
          absurd (not-suc-le-zero (le_of_suc-le-suc (le_of_suc-le-suc (le_of_suc-le-suc (le_of_suc-le-suc h)))))

  pub fixed_some : (s : Centred) (d : List ℕ) (e : Float) (four : List Float) → (length fixed ≡ 0 → ⊥) → s ≡ centred_of fixed → d ≡ decomposition_at ds (count + 1) → e ≡ along_of n offset s.mean → four ≡ rows_of (root_of d s.count) n e info
      → written out at 4 (λ i. four ! i) ≡ written out at 4 (fixed_row count fixed ds n offset info)
  unfolding fixed_row
  fixed_some s d e four some hs hd he hf =
      written_same out at 4 _ _ (λ k h. ap (λ (l : List Float). l ! k) hf
      ∙ four_is d s.count n e info k h
      ∙ ap (λ (y : Float). set_row d s.count n y info k) he
      ∙ ap (λ (y : List ℕ). set_row y s.count n (along_of n offset s.mean) info k) hd
      ∙ ap (λ (y : Centred). set_row (decomposition_at ds (count + 1)) y.count n (along_of n offset y.mean) info k) hs
      ∙ row fixed some k)
    where
      row : (l : List Float) → (length l ≡ 0 → ⊥) → (k : ℕ) → set_row (decomposition_at ds (count + 1)) (centred_of l).count n (along_of n offset (centred_of l).mean) info k ≡ fixed_row count l ds n offset info k
      row [] some k = absurd (some refl)
      row (x ∷ l) some k = refl

-- all columns of a batch lie within the Jacobian, and so their places are numbers of the machine
module _ (frames actions : List Float) (from size width rows cells : ℕ) (room : BatchRoom frames actions from size width rows cells) where
  pub batch_ends : from * width * rows + size * width * rows ≤ cells
  batch_ends = rw (room.cells_whole, room.rows_whole) (omega (arith, add-mul from size width, add-mul (from * width) (size * width) ((frame_count frames + 1) * 4), mul-le-mul_right ((frame_count frames + 1) * 4) (mul-le-mul_right width room.within)))

  one : 1 ≤ rows
  one = omega (arith, room.rows_whole)

  pub first-narrow : from * width ≤ from * width * rows
  first-narrow = rw (mul-one (from * width)) at (mul-le-mul_left (from * width) one)

  pub size-narrow : size * width ≤ size * width * rows
  size-narrow = rw (mul-one (size * width)) at (mul-le-mul_left (size * width) one)

-- the columns of a batch's blocks lie within the Jacobian
module _ (frames actions : List Float) (from size width rows cells : ℕ) (room : BatchRoom frames actions from size width rows cells) (c : ℕ) (column : c < width) where
  column_starts : (k : ℕ) → k < size → ((from + k) * width + c) * rows + rows ≤ cells
  column_starts k h =
      let frame : from + k < frame_count frames = omega (arith, room.within) in
      let inside : (from + k) * width + c < frame_count frames * width = omega (arith, mul-le-mul_right width frame, suc-mul (from + k) width) in
      rw (room.cells_whole, room.rows_whole) (column_ends ((frame_count frames + 1) * 4) (frame_count frames * width) ((from + k) * width + c) inside)

  pub column_fits : (k : ℕ) → k < size → (from * width + c) * rows + from * 4 + k * (width * rows + 4) + 4 ≤ cells
  column_fits k h = rw (block-place from k width c rows) (omega (arith, column_starts k h, room.rows_whole, room.within))

  -- so its place, and the step from one block to the next, are numbers of the machine
  pub batch_starts : (from * width + c) * rows + rows ≤ cells
  batch_starts = rw add-zero at (column_starts 0 room.some)

  pub batch_narrow : from * width + c ≤ (from * width + c) * rows
  batch_narrow =
      let one : 1 ≤ rows = omega (arith, room.rows_whole) in
      rw (mul-one (from * width + c)) at (mul-le-mul_left (from * width + c) one)

  pub batch_step : width * rows ≤ cells
  batch_step =
      let one : 1 ≤ frame_count frames = omega (arith, room.within, room.some) in
      let wide : 1 * (width * rows) ≤ frame_count frames * (width * rows) = mul-le-mul_right (width * rows) one in
      let all : cells ≡ frame_count frames * (width * rows) = rw (room.cells_whole, room.rows_whole, mul_assoc) in
      omega (arith, wide, all)
