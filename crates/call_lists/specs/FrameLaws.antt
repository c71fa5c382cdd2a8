-- Laws of calls that are made of frames: they add to cells of their own segments alone, and what they make of each cell, frame by frame. Assumes nothing.
use Prim.Native.Nat.{ℕ, zero, suc, ◌+◌, ◌≤◌, ◌<◌}
use Rattle.std.specs.Prelude.{◌≡◌, false, List, Float, Option, Some, None}
use Rattle.std.proofs.Math.Path.{refl, ap}
use Rattle.std.proofs.Common.{◌∙◌, inl, arith}
use Rattle.terms.specs.Terms.{Term, cell_of, add_all, upto, cell_at, segment, column_at, block, at_cell}
use Rattle.terms.proofs.Laws.{upto_more}
use Rattle.terms.proofs.Cells.{at_cell-append, segment-cell, block-cell}
use Rattle.normal_blocks.specs.Map.{exceeds, some_exceeds}
use Rattle.normal_blocks.proofs.Laws.{fits, fits_at}
use Rattle.normal_blocks.specs.Target.{hessian_at, gradient_at}
use Rattle.normal_blocks.specs.TargetLaws.{hessian_same, gradient_same}
use Rattle.call_lists.specs.Lists.{Every}
use Rattle.call_lists.specs.ListLaws.{every_upto, some-upto, every_imp}
use Rattle.call_lists.specs.Segments.{segment_at, frame_segment, segments_of, Has, HasBoth, HasRow}
use Rattle.call_lists.specs.Calls.{hessian_terms, gradient_terms, HasPlace, Tame}
use Rattle.call_lists.specs.Frames.{Frames, frame_hessian, frame_gradient, framed, entry_added, number_added, hessian_cell, gradient_cell}

-- ---- a loop over frames: one frame more, at the place that was looked up, with entries that were worked out
module _ (f : Frames) (k : ℕ) (p : Option ℕ) (at : p ≡ f.layout.place k) where
  pub hessian_more : (n : ℕ) (h₀ h h' : List Float) (e : ℕ → ℕ → Float) → ((i j : ℕ) → i < f.layout.width k → j < f.layout.width k → e i j ≡ f.block k i j)
      → h ≡ add_all h₀ (upto k (frame_hessian n f)) → h' ≡ add_all h (hessian_at n (f.layout.width k) p e) → h' ≡ add_all h₀ (upto (k + 1) (frame_hessian n f))
  unfolding frame_hessian
  hessian_more n h₀ h h' e same before added =
      let entries = hessian_same n (f.layout.width k) (f.layout.place k) e (f.block k) same in
      upto_more h₀ h h' (frame_hessian n f) k before (added ∙ rw at (ap (add_all h) entries))

  pub gradient_more : (g₀ g g' : List Float) (v : ℕ → Float) → ((i : ℕ) → i < f.layout.width k → v i ≡ f.vector k i)
      → g ≡ add_all g₀ (upto k (frame_gradient f)) → g' ≡ add_all g (gradient_at (f.layout.width k) p v) → g' ≡ add_all g₀ (upto (k + 1) (frame_gradient f))
  unfolding frame_gradient
  gradient_more g₀ g g' v same before added =
      let entries = gradient_same (f.layout.width k) (f.layout.place k) v (f.vector k) same in
      upto_more g₀ g g' (frame_gradient f) k before (added ∙ rw at (ap (add_all g) entries))

-- ---- one cell, frame by frame
frame_entry : (n width : ℕ) (p : Option ℕ) (e : ℕ → ℕ → Float) (i j : ℕ) → exceeds n width p ≡ false → i < n → (y : Float)
    → at_cell (cell_of n i j) (hessian_at n width p e) y ≡ entry_added width p e i j y
unfolding hessian_at at_cell
frame_entry n width (Some o) e i j f row y = block-cell n o width (fits_at n width o (Some o) refl f) e i j row y
frame_entry n width None e i j f row y = refl

frame_number : (width : ℕ) (p : Option ℕ) (v : ℕ → Float) (i : ℕ) (y : Float) → at_cell i (gradient_at width p v) y ≡ number_added width p v i y
unfolding gradient_at at_cell
frame_number width (Some o) v i y = segment-cell o width v i y
frame_number width None v i y = refl

module _ (n : ℕ) (x : Float) (f : Frames) (out : some_exceeds n f.layout.width f.layout.place f.layout.count ≡ false) where
  entries : (k : ℕ) → k ≤ f.layout.count → (i j : ℕ) → i < n → (y : Float) → at_cell (cell_of n i j) (upto k (frame_hessian n f)) y ≡ hessian_cell f k i j y
  unfolding upto at_cell hessian_cell frame_hessian
  entries zero l i j row y = refl
  entries (suc k) l i j row y =
      at_cell-append (cell_of n i j) (upto k (frame_hessian n f)) (frame_hessian n f k) y
      ∙ frame_entry n (f.layout.width k) (f.layout.place k) (f.block k) i j (fits n f.layout.width f.layout.place f.layout.count out k l) row _
      ∙ ap (entry_added (f.layout.width k) (f.layout.place k) (f.block k) i j) (entries k (omega arith) i j row y)

  -- cell (i, j) under a call with a plane: entry (i - offset, j - offset) of each frame whose segment has both, frame after frame
  pub framed_hessian : (i j : ℕ) → i < n → (y : Float) → at_cell (cell_of n i j) (hessian_terms (framed n x f)) y ≡ hessian_cell f f.layout.count i j y
  framed_hessian i j row y = entries f.layout.count (omega arith) i j row y

numbers : (f : Frames) (k i : ℕ) (y : Float) → at_cell i (upto k (frame_gradient f)) y ≡ gradient_cell f k i y
unfolding upto at_cell gradient_cell frame_gradient
numbers f zero i y = refl
numbers f (suc k) i y =
    at_cell-append i (upto k (frame_gradient f)) (frame_gradient f k) y ∙ frame_number (f.layout.width k) (f.layout.place k) (f.vector k) i _
    ∙ ap (number_added (f.layout.width k) (f.layout.place k) (f.vector k) i) (numbers f k i y)

pub framed_gradient : (n : ℕ) (x : Float) (f : Frames) (i : ℕ) (y : Float) → at_cell i (gradient_terms (framed n x f)) y ≡ gradient_cell f f.layout.count i y
framed_gradient n x f i y = numbers f f.layout.count i y

-- ---- a frame that fits adds only inside its own segment
hessian_inside : (n width : ℕ) (p : Option ℕ) (e : ℕ → ℕ → Float) → exceeds n width p ≡ false → Every (λ t. HasPlace n (segment_at width p) t.cell) (hessian_at n width p e)
unfolding hessian_at block column_at segment cell_at
hessian_inside n width (Some o) e f =
    let fit : o + width ≤ n = fits_at n width o (Some o) refl f in
    every_upto (λ (t : Term). HasPlace n (segment_at width (Some o)) t.cell) width _
    (λ c lc. every_upto (λ (t : Term). HasPlace n (segment_at width (Some o)) t.cell) width _
    (λ r lr. ((o + r, o + c, omega arith, omega arith, inl ((omega arith, omega arith), (omega arith, omega arith))), tt)))
hessian_inside n width None e f = tt

gradient_inside : (width : ℕ) (p : Option ℕ) (v : ℕ → Float) → Every (λ t. HasRow t.cell (segment_at width p)) (gradient_at width p v)
unfolding gradient_at segment cell_at
gradient_inside width (Some o) v = every_upto (λ (t : Term). HasRow t.cell (segment_at width (Some o))) width _ (λ r lr. (inl (omega arith, omega arith), tt))
gradient_inside width None v = tt

-- and so does a call with a plane, where reason 10 does not apply
pub framed_tame : (n : ℕ) (x : Float) (f : Frames) → some_exceeds n f.layout.width f.layout.place f.layout.count ≡ false → Tame n (segments_of f.layout) (framed n x f)
unfolding frame_segment frame_hessian frame_gradient
framed_tame n x f out =
    let l = f.layout in
    record {
      hessian = every_upto (λ (t : Term). HasPlace n (segments_of l) t.cell) l.count _
          (λ k h. every_imp (λ (t : Term). HasPlace n (segment_at (l.width k) (l.place k)) t.cell) (λ (t : Term). HasPlace n (segments_of l) t.cell)
          (λ t s. (s.0, s.1, s.2, s.3, some-upto (HasBoth s.0 s.1) l.count (frame_segment l) k h s.4)) (frame_hessian n f k)
          (hessian_inside n (l.width k) (l.place k) (f.block k) (fits n l.width l.place l.count out k h)));
      gradient = every_upto (λ (t : Term). HasRow t.cell (segments_of l)) l.count _
          (λ k h. every_imp (λ (t : Term). HasRow t.cell (segment_at (l.width k) (l.place k))) (λ (t : Term). HasRow t.cell (segments_of l))
          (λ t s. some-upto (Has t.cell) l.count (frame_segment l) k h s) (frame_gradient f k) (gradient_inside (l.width k) (l.place k) (f.vector k)));
    }
