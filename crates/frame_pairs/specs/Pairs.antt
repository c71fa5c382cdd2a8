-- Two frames of six columns side by side, each through its transform: where a pair's numbers stand, what a frame's are, and what a run of frames adds. Definitions only.
-- x is a frame's action, f the centred frame, n the plane's normal and offset its offset, t the entries of its transform.
use Rattle.std.specs.Prelude.{ℕ, zero, suc, ◌+◌, ◌*◌, ◌≤◌, ◌<◌, ◌≡◌, ◌≢◌, false, List, length, Float}
use Rattle.lists.specs.Part.{◌!◌}
use Rattle.normal_blocks.specs.Map.{lookup, exceeds}
use Rattle.call_lists.specs.Frames.{Frames}
use Rattle.block_transforms.specs.Transform.{ROOM, entry_from, transformed_block, transformed_vector}
use Rattle.derivative.specs.Action.{action_size}
use Rattle.point_moments.specs.Scatter.{CENTRED}
use Rattle.point_moments.specs.declared.scatter.Centred.{Centred}
use Rattle.plane_fit.specs.Fit.{frame_count, frame_at, action_at}
use Rattle.frame_segment.specs.Frame.{block_entry}
use Rattle.frame_cost.specs.Cost.{frame_cost, cost_at}
use Rattle.frame_parts.specs.Frame.{vector_entry}
use Rattle.frame_blocks.specs.Frames.{FirstAdded}

-- the k-th of six
abbrev pub of_six : List Float → List Float → List Float → List Float → List Float → List Float → ℕ → List Float
of_six a b c d e f zero = a
of_six a b c d e f (suc zero) = b
of_six a b c d e f (suc (suc zero)) = c
of_six a b c d e f (suc (suc (suc zero))) = d
of_six a b c d e f (suc (suc (suc (suc zero)))) = e
of_six a b c d e f (suc (suc (suc (suc (suc k))))) = f

-- number e of frame k of a pair
unfoldable pub lane : List Float → ℕ → ℕ → Float
lane cells k e = cells ! (2 * e + k)

-- `width` numbers v became those of frame k from number e on; its other numbers stayed, and so did the other frame's
pub record Put (k e width : ℕ) (v : ℕ → Float) (cells cells' : List Float) : Type 0 where
  pub long : length cells' ≡ length cells
  pub here : (i : ℕ) → i < width → lane cells' k (e + i) ≡ v i
  pub before : (d : ℕ) → d < e → lane cells' k d ≡ lane cells k d
  pub behind : (d : ℕ) → e + width ≤ d → lane cells' k d ≡ lane cells k d
  pub other : (j d : ℕ) → j < 2 → j ≢ k → lane cells' j d ≡ lane cells j d

-- a frame's part of so many columns: its block by columns, its vector, its cost
unfoldable pub block_in : ℕ → List Float → ℕ → ℕ → ℕ → Float
block_in cols cells k i j = lane cells k (cols * j + i)

unfoldable pub vector_in : ℕ → List Float → ℕ → ℕ → Float
vector_in cols cells k i = lane cells k (cols * cols + i)

unfoldable pub cost_in : ℕ → List Float → ℕ → Float
cost_in cols cells k = lane cells k (cols * cols + cols)

-- the first columns of frame k's block have the entries f, over what was there; the other frame's numbers stayed
pub record Columns (cols k : ℕ) (f : ℕ → ℕ → Float) (cells₀ : List Float) (j : ℕ) (cells : List Float) : Type 0 where
  pub long : length cells ≡ length cells₀
  pub block : (d : ℕ) → d < j → (i : ℕ) → i < cols → block_in cols cells k i d ≡ f i d
  pub other : (l d : ℕ) → l < 2 → l ≢ k → lane cells l d ≡ lane cells₀ l d

-- frame k's part is that of a frame through its transform
pub record Holds (cols : ℕ) (t : ℕ → ℕ → Float) (x : List Float) (f : Centred) (n : List Float) (offset weight : Float) (k : ℕ) (cells : List Float) : Type 0 where
  pub block : (i j : ℕ) → i < cols → j < cols → block_in cols cells k i j ≡ transformed_block 6 t (block_entry x f n weight) i j
  pub vector : (i : ℕ) → i < cols → vector_in cols cells k i ≡ transformed_vector 6 t (vector_entry x f n offset weight) i
  pub cost : cost_in cols cells k ≡ frame_cost x f n offset weight

-- it was put there, and the other frame's numbers stayed
pub record Part (cols : ℕ) (t : ℕ → ℕ → Float) (x : List Float) (f : Centred) (n : List Float) (offset weight : Float) (k : ℕ) (cells cells' : List Float) : Type 0 where
  pub long : length cells' ≡ length cells
  pub holds : Holds cols t x f n offset weight k cells'
  pub other : (j d : ℕ) → j < 2 → j ≢ k → lane cells' j d ≡ lane cells j d

-- how many numbers the parts of a pair are
abbrev pub PARTS : ℕ → ℕ
PARTS cols = 2 * (cols * cols + cols + 1)

-- the parts of the first `size` frames of the lists
pub record Parts (cols : ℕ) (frames actions transforms n : List Float) (offset weight : Float) (size : ℕ) (cells : List Float) : Type 0 where
  pub long : length cells ≡ PARTS cols
  pub each : (k : ℕ) → k < size → Holds cols (entry_from transforms (ROOM * k) 6) (action_at actions k) (frame_at frames k) n offset weight k cells

-- the frames of the lists, each through its transform of six rows and so many columns
abbrev pub through_by : ℕ → List Float → List Float → List ℕ → List Float → List Float → Float → Float → Frames
through_by cols frames actions map transforms n offset weight = record {
  layout = record { count = frame_count frames; place = lookup map; width = λ k. cols };
  block = λ k. transformed_block 6 (entry_from transforms (ROOM * k) 6) (block_entry (action_at actions k) (frame_at frames k) n weight);
  vector = λ k. transformed_vector 6 (entry_from transforms (ROOM * k) 6) (vector_entry (action_at actions k) (frame_at frames k) n offset weight);
}

-- what the work on the first `count` of them may rely on
pub record RunReady (cells order cols : ℕ) (frames actions : List Float) (map : List ℕ) (transforms : List Float) (count : ℕ) : Type 0 where
  pub square : cells ≡ order * order
  pub framed : CENTRED * count ≤ length frames
  pub acted : action_size * count ≤ length actions
  pub there : ROOM * count ≤ length transforms
  pub fits : (k : ℕ) → k < count → exceeds order cols (lookup map k) ≡ false

-- they are added, and their costs
abbrev pub RunAdded : ℕ → ℕ → List Float → List Float → List ℕ → List Float → List Float → Float → Float → ℕ → Float → Float → List Float → List Float → List Float → List Float → Type 0
RunAdded order cols frames actions map transforms n offset weight count s r h h' g g' =
    FirstAdded order (through_by cols frames actions map transforms n offset weight) (cost_at frames actions n offset weight) count s r h h' g g'

-- the frames of a pair by their parts, the first of them being frame `from` of the lists
abbrev pub parts_in : ℕ → List ℕ → List Float → ℕ → ℕ → Frames
parts_in cols map cells from size = record {
  layout = record { count = size; place = λ k. lookup map (from + k); width = λ k. cols };
  block = block_in cols cells;
  vector = vector_in cols cells;
}

abbrev pub PartsAdded : ℕ → ℕ → List ℕ → List Float → ℕ → ℕ → Float → Float → List Float → List Float → List Float → List Float → Type 0
PartsAdded order cols map cells from size s r h h' g g' = FirstAdded order (parts_in cols map cells from size) (cost_in cols cells) size s r h h' g g'
