-- THE BOOK, from document 01's "Many calls on one Hessian": it holds the cells, at the start with their first content, and is fed each call's own
-- inputs alone, in the list's order. What a call owns comes from the same inputs. Definitions only.
use Rattle.std.specs.Prelude.{ℕ, zero, suc, List, [], ◌∷◌, Option, Some, None, Float}
use Rattle.sums.specs.Sum.{zero_f}
use Rattle.normal_blocks.specs.Map.{lookup}
use Rattle.call_lists.specs.Lists.{Pairs}
use Rattle.call_lists.specs.Segments.{Layout, Segment, segments_of, HasRow, HasCell, Disjoint}
use Rattle.call_lists.specs.Calls.{Answer, refusal, cost}
use Rattle.call_lists.specs.Frames.{Frames, hessian_cell, gradient_cell}
use Rattle.block_transforms.specs.Transform.{Beside, shape_at, layout_through}
use Rattle.plane_fit.specs.Fit.{frame_count}
use Rattle.plane.specs.declared.Plane.{Plane}
use Rattle.plane_moments.specs.Accumulate.{FramesWork, fit_of, frames_of, cost_under}
use Rattle.match_sums.specs.Groups.{list_cost}
use Rattle.map_planes.specs.Accumulate as map_planes
use Rattle.normal_list.specs.Work.{Work, frames, matches, refusal_of}

-- ---- what a call owns, with a Hessian of m cells and a gradient of n

-- where its frames go: frame k as word k of the map says; "a match list is frame 0". "A mapped frame's segment is the dof rows from its offset";
-- "A segment is from then on as wide as its transform"
abbrev pub layout_of : Work → Layout
layout_of (frames b) = layout_through (shape_at b.shapes) (record { count = frame_count b.work.frames; place = lookup b.work.map; width = λ k. b.work.dof })
layout_of (matches b) = layout_through (shape_at b.shapes) (record { count = 1; place = lookup b.work.map; width = λ k. b.work.dof })

-- a refused call has no segments
abbrev pub unless_refused : ℕ → List Segment → List Segment
unless_refused zero ss = ss
unless_refused (suc k) ss = []

unfoldable pub own_segments : ℕ → ℕ → Work → List Segment
own_segments m n w = unless_refused (refusal_of m n w) (segments_of (layout_of w))

-- "An accepted call owns gradient cell i if row i is in a segment of its frames"
abbrev pub OwnsRow : ℕ → ℕ → Work → ℕ → Type 0
OwnsRow m n w i = HasRow i (own_segments m n w)

-- "and the Hessian cell of row i and column j if one such segment has both"
abbrev pub OwnsCell : ℕ → ℕ → Work → ℕ → ℕ → Type 0
OwnsCell m n w i j = HasCell i j (own_segments m n w)

-- no row lies in segments of two different accepted calls
abbrev pub Apart : ℕ → ℕ → List Work → Type 0
Apart m n ws = Pairs (λ v w. Disjoint (own_segments m n v) (own_segments m n w)) ws

-- ---- what the book works out for one call: what the call answers, and what it makes of the content of Hessian cell (i, j) and of gradient cell i
pub record Page : Type 0 where
  pub answer : Answer
  pub hessian : ℕ → ℕ → Float → Float
  pub gradient : ℕ → Float → Float

-- no cell changed
abbrev pub unchanged : Answer → Page
unchanged a = record { answer = a; hessian = λ i j x. x; gradient = λ i x. x }

-- frame after frame, each entry worked out from the own inputs and added to its cell, each sum rounded once
abbrev pub entered : Float → Frames → Page
entered x f = record { answer = cost x; hessian = hessian_cell f f.layout.count; gradient = gradient_cell f f.layout.count }

-- "Accepted frames: the cost by the steps above; then, frame after frame, each term"; "No plane: cost 0, no cell changed"
abbrev pub frames_page : Beside FramesWork → Option Plane → Page
frames_page b (Some p) = entered (cost_under b.work p.normal p.offset) (frames_of b p.normal p.offset)
frames_page b None = unchanged (cost zero_f)

-- "Accepted matches: likewise as one frame, summed by groups"
abbrev pub accepted_page : Work → Page
accepted_page (frames b) = frames_page b (fit_of b.work)
accepted_page (matches b) = entered (list_cost b.work.action b.work.matches) (map_planes.frames_of b)

-- "A refused call: its number, no cell changed"
abbrev pub judged_page : ℕ → Page → Page
judged_page zero p = p
judged_page (suc k) p = unchanged (refusal (suc k))

-- the page of a call with a Hessian of m cells and a gradient of n
unfoldable pub page_of : ℕ → ℕ → Work → Page
page_of m n w = judged_page (refusal_of m n w) (accepted_page w)

-- the book of one cell: page after page
unfoldable pub hessian_book : ℕ → ℕ → List Work → ℕ → ℕ → Float → Float
hessian_book m n [] i j x = x
hessian_book m n (w ∷ ws) i j x = hessian_book m n ws i j ((page_of m n w).hessian i j x)

unfoldable pub gradient_book : ℕ → ℕ → List Work → ℕ → Float → Float
gradient_book m n [] i x = x
gradient_book m n (w ∷ ws) i x = gradient_book m n ws i ((page_of m n w).gradient i x)
