-- The frames of a call, each added through the transform of its word: what the work may rely on, and what it leaves. Definitions only.
use Rattle.std.specs.Prelude.{ℕ, ◌+◌, ◌-◌, ◌*◌, ◌≤◌, ◌<◌, ◌≡◌, false, List, length, Option, Float}
use Rattle.sums.specs.Sum.{zero_f}
use Rattle.terms.specs.Terms.{add_all}
use Rattle.normal_blocks.specs.Map.{lookup, some_exceeds}
use Rattle.normal_blocks.specs.Target.{hessian_at, gradient_at}
use Rattle.call_lists.specs.Frames.{Frames}
use Rattle.block_transforms.specs.Transform.{ROOM, sized, shape_at, block_under, vector_under, width_under, width_at, through}
use Rattle.block_transforms.specs.Reasons.{MOST_COLUMNS}
use Rattle.block_transforms.specs.declared.Shape.{Shape}
use Rattle.derivative.specs.Action.{action_size}
use Rattle.plane_fit.specs.Fit.{frame_count}
use Rattle.frame_cost.specs.Cost.{cost_at}
use Rattle.frame_blocks.specs.Frames.{frames_under, FirstAdded, FramesAdded}

-- the frames under the plane, each through the transform of its word
abbrev pub through_under : ℕ → List Float → List Float → List ℕ → List ℕ → List Float → List Float → Float → Float → Frames
through_under dof frames actions map shapes transforms n offset weight = through (shape_at shapes) transforms (frames_under dof frames actions map n offset weight)

-- the transform of word k fits, and its numbers are there
abbrev pub There : ℕ → ℕ → Option Shape → List Float → Type 0
There dof k s transforms = (rows cols : ℕ) → s ≡ sized rows cols → (cols ≤ MOST_COLUMNS) × (rows ≡ dof) × (ROOM * k + ROOM ≤ length transforms)

-- what the tests of a call leave to the work
pub record Ready (cells order dof : ℕ) (frames actions : List Float) (map shapes : List ℕ) (transforms : List Float) : Type 0 where
  pub narrow : dof ≤ 9
  pub square : cells ≡ order * order
  pub acted : action_size * frame_count frames ≤ length actions
  pub fits : some_exceeds order (width_at (shape_at shapes) dof) (lookup map) (frame_count frames) ≡ false
  pub there : (k : ℕ) → There dof k (shape_at shapes k) transforms

-- the frames from `from` up to `to` have one shape
abbrev pub Alike : List ℕ → ℕ → ℕ → Type 0
Alike shapes from to = (k : ℕ) → from ≤ k → k < to → shape_at shapes k ≡ shape_at shapes from

-- and the work may be done on them
pub record RunReady (cells order dof : ℕ) (frames actions : List Float) (map shapes : List ℕ) (transforms : List Float) (from to : ℕ) : Type 0 where
  pub ready : Ready cells order dof frames actions map shapes transforms
  pub some : from < to
  pub held : to ≤ frame_count frames
  pub alike : Alike shapes from to

-- one frame of block entries e and vector entries v, under a shape s with the entries t, at the place p
pub record FrameAdded (order dof : ℕ) (s : Option Shape) (t : ℕ → ℕ → ℕ → Float) (p : Option ℕ) (e : ℕ → ℕ → Float) (v : ℕ → Float) (h h' g g' : List Float) : Type 0 where
  pub hessian : h' ≡ add_all h (hessian_at order (width_under s dof) p (block_under s t e))
  pub gradient : g' ≡ add_all g (gradient_at (width_under s dof) p (vector_under s t v))

-- the loop over the frames, after k of them
abbrev pub Summed : ℕ → ℕ → List Float → List Float → List ℕ → List ℕ → List Float → List Float → Float → Float → ℕ → Float → List Float → List Float → List Float → List Float → Type 0
Summed order dof frames actions map shapes transforms n offset weight k s h h' g g' =
    FirstAdded order (through_under dof frames actions map shapes transforms n offset weight) (cost_at frames actions n offset weight) k zero_f s h h' g g'

-- a call's frames from `from` on
abbrev pub frames_from : ℕ → Frames → Frames
frames_from from f = record {
  layout = record { count = f.layout.count - from; place = λ k. f.layout.place (from + k); width = λ k. f.layout.width (from + k) };
  block = λ k. f.block (from + k);
  vector = λ k. f.vector (from + k);
}

-- those from `from` up to `to` are added one after the other, and their costs to a number that was there
abbrev pub Continued : ℕ → ℕ → List Float → List Float → List ℕ → List ℕ → List Float → List Float → Float → Float → ℕ → ℕ → Float → Float → List Float → List Float → List Float → List Float → Type 0
Continued order dof frames actions map shapes transforms n offset weight from to s r h h' g g' =
    FirstAdded order (frames_from from (through_under dof frames actions map shapes transforms n offset weight)) (λ k. cost_at frames actions n offset weight (from + k)) (to - from) s r h h' g g'

-- all of them with the fixed set
abbrev pub AllAdded : ℕ → ℕ → List Float → List Float → List Float → List ℕ → List ℕ → List Float → List Float → Float → Float → Float → List Float → List Float → List Float → List Float → Type 0
AllAdded order dof frames fixed actions map shapes transforms n offset weight r h h' g g' =
    FramesAdded order (through_under dof frames actions map shapes transforms n offset weight) frames fixed actions n offset weight r h h' g g'
