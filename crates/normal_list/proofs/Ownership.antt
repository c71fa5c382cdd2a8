-- WHAT A CALL OWNS, both ways: row i exactly if it is among the rows of one of the call's mapped frames, and cell (i, j) exactly if one such frame's rows have
-- both; and calls whose mapped frames have no row in common are apart. Assumes nothing.
use Rattle.std.specs.Prelude.{ℕ, zero, suc, ◌≡◌, refl, List}
use Rattle.normal_blocks.specs.Map.{lookup}
use Rattle.call_lists.specs.Lists.{Some, Pairs}
use Rattle.call_lists.specs.ListLaws.{pairs_imp}
use Rattle.call_lists.specs.Segments.{Segment, segments_of, Has, HasBoth, Disjoint}
use Rattle.call_lists.proofs.SegmentLaws.{frame_of, of_frame}
use Rattle.plane_fit.specs.Fit.{frame_count}
use Rattle.block_transforms.specs.Transform.{Beside, shape_at, width_at}
use Rattle.plane_moments.specs.Accumulate.{FramesWork, transformed_frames_refusal}
use Rattle.map_planes.specs.Accumulate.{transformed_matches_refusal}
use Rattle.map_planes.specs.Accumulate as map_planes
use Rattle.normal_list.specs.Work.{Work, frames, matches, refusal_of}
use Rattle.normal_list.specs.Book.{layout_of, unless_refused, own_segments, OwnsRow, OwnsCell, Apart}
use Rattle.normal_list.specs.Demand.{Exactly, InFrame, InOneFrame, WordsApart}

-- ---- an accepted call's own segments are those of its layout, and a refused one has none
module _ (P : Segment → Type 0) where
  unless_some : (r : ℕ) (ss : List Segment) → Some P (unless_refused r ss) → (r ≡ 0) × Some P ss
  unless_some zero ss s = (refl, s)
  unless_some (suc r) ss s = absurd s

  some_unless : (r : ℕ) (ss : List Segment) → r ≡ 0 → Some P ss → Some P (unless_refused r ss)
  some_unless r ss e s = rw e s

module _ (m n : ℕ) where
  row_exactly : (w : Work) (count dof : ℕ) (map shapes : List ℕ) → layout_of w ≡ record { count = count; place = lookup map; width = width_at (shape_at shapes) dof } → (i : ℕ)
      → Exactly (OwnsRow m n w i) ((refusal_of m n w ≡ 0) × InFrame count dof map shapes i)
  unfolding own_segments
  row_exactly w count dof map shapes e i = (
    (λ own.
        let a = unless_some (Has i) (refusal_of m n w) (segments_of (layout_of w)) own in
        let f = frame_of (Has i) _ (rw e at a.1) in
        (a.0, record { frame = f.0; exists = f.1; offset = f.2; mapped = f.3; row = f.4 })),
    (λ p. some_unless (Has i) (refusal_of m n w) (segments_of (layout_of w)) p.0 (rw e (of_frame (Has i) _ p.1.frame p.1.offset p.1.exists p.1.mapped p.1.row))),
  )

  cell_exactly : (w : Work) (count dof : ℕ) (map shapes : List ℕ) → layout_of w ≡ record { count = count; place = lookup map; width = width_at (shape_at shapes) dof } → (i j : ℕ)
      → Exactly (OwnsCell m n w i j) ((refusal_of m n w ≡ 0) × InOneFrame count dof map shapes i j)
  unfolding own_segments
  cell_exactly w count dof map shapes e i j = (
    (λ own.
        let a = unless_some (HasBoth i j) (refusal_of m n w) (segments_of (layout_of w)) own in
        let f = frame_of (HasBoth i j) _ (rw e at a.1) in
        (a.0, record { frame = f.0; exists = f.1; offset = f.2; mapped = f.3; row = f.4.0; column = f.4.1 })),
    (λ p. some_unless (HasBoth i j) (refusal_of m n w) (segments_of (layout_of w)) p.0 (rw e (of_frame (HasBoth i j) _ p.1.frame p.1.offset p.1.exists p.1.mapped (p.1.row, p.1.column)))),
  )

  -- frames
  pub frames_row : (b : Beside FramesWork) (i : ℕ)
      → Exactly (OwnsRow m n (frames b) i) ((transformed_frames_refusal m n b ≡ 0) × InFrame (frame_count b.work.frames) b.work.dof b.work.map b.shapes i)
  frames_row b = row_exactly (frames b) (frame_count b.work.frames) b.work.dof b.work.map b.shapes refl

  pub frames_cell : (b : Beside FramesWork) (i j : ℕ)
      → Exactly (OwnsCell m n (frames b) i j) ((transformed_frames_refusal m n b ≡ 0) × InOneFrame (frame_count b.work.frames) b.work.dof b.work.map b.shapes i j)
  frames_cell b = cell_exactly (frames b) (frame_count b.work.frames) b.work.dof b.work.map b.shapes refl

  -- a match list counts as one frame, that of word 0
  pub matches_row : (b : Beside map_planes.Work) (i : ℕ)
      → Exactly (OwnsRow m n (matches b) i) ((transformed_matches_refusal m n b ≡ 0) × InFrame 1 b.work.dof b.work.map b.shapes i)
  matches_row b = row_exactly (matches b) 1 b.work.dof b.work.map b.shapes refl

  pub matches_cell : (b : Beside map_planes.Work) (i j : ℕ)
      → Exactly (OwnsCell m n (matches b) i j) ((transformed_matches_refusal m n b ≡ 0) × InOneFrame 1 b.work.dof b.work.map b.shapes i j)
  matches_cell b = cell_exactly (matches b) 1 b.work.dof b.work.map b.shapes refl

  -- ---- calls whose mapped frames have no row in common, by words and shapes, are apart, whatever else they are handed
  words_disjoint : (v w : Work) → WordsApart v w → Disjoint (own_segments m n v) (own_segments m n w)
  unfolding own_segments
  words_disjoint v w apart i a b =
      let f = frame_of (Has i) (layout_of v) (unless_some (Has i) (refusal_of m n v) (segments_of (layout_of v)) a).1 in
      let g = frame_of (Has i) (layout_of w) (unless_some (Has i) (refusal_of m n w) (segments_of (layout_of w)) b).1 in
      apart f.0 g.0 f.2 g.2 i f.1 g.1 f.3 g.3 f.4 g.4

  pub words_apart : (ws : List Work) → Pairs WordsApart ws → Apart m n ws
  words_apart = pairs_imp WordsApart (λ v w. Disjoint (own_segments m n v) (own_segments m n w)) words_disjoint
