-- The rows of a call's frames: a layout says where the frames go, and its segments which rows and cells are theirs. Definitions only.
use Rattle.std.specs.Prelude.{ℕ, ◌+◌, ◌≤◌, ◌<◌, List, [], ◌∷◌, Option}
use Rattle.terms.specs.Terms.{upto}
use Rattle.std.specs.declared.option.Option.TheVariants as option
use Rattle.call_lists.specs.Lists.{Some}

-- how many frames there are, each one's place, and how many rows it takes there
pub record Layout : Type 0 where
  pub count : ℕ
  pub place : ℕ → Option ℕ
  pub width : ℕ → ℕ

-- `width` rows from `offset` on
pub record Segment : Type 0 where
  pub offset : ℕ
  pub width : ℕ

-- a mapped frame's segment is `width` rows from its offset; an unmapped frame has none
abbrev pub segment_at : ℕ → Option ℕ → List Segment
segment_at width (option.Some o) = record { offset = o; width = width } ∷ []
segment_at width option.None = []

unfoldable pub frame_segment : Layout → ℕ → List Segment
frame_segment l k = segment_at (l.width k) (l.place k)

-- the segments of all frames, frame after frame
abbrev pub segments_of : Layout → List Segment
segments_of l = upto l.count (frame_segment l)

-- row i is in a segment; row i and column j both are
abbrev pub Has : ℕ → Segment → Type 0
Has i s = (s.offset ≤ i) × (i < s.offset + s.width)

abbrev pub HasBoth : ℕ → ℕ → Segment → Type 0
HasBoth i j s = Has i s × Has j s

-- row i is in one of the segments; one of them has row i and column j both
abbrev pub HasRow : ℕ → List Segment → Type 0
HasRow i ss = Some (Has i) ss

abbrev pub HasCell : ℕ → ℕ → List Segment → Type 0
HasCell i j ss = Some (HasBoth i j) ss

-- no row is in segments of both
abbrev pub Disjoint : List Segment → List Segment → Type 0
Disjoint ss ts = (i : ℕ) → HasRow i ss → HasRow i ts → ⊥
