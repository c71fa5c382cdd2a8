-- Accumulating frames: the calls that the contracts speak of, from their own inputs and the two lengths. Definitions only.
use Rattle.std.specs.Prelude.{ℕ, Bool, not, ◌||◌, List, ◌∷◌, ltb, eqb, length, Option, Some, None, Float}
use Rattle.refusals.specs.Refusal.{◌when◌, first_of}
use Rattle.sums.specs.Sum.{zero_f}
use Rattle.validate.specs.Finite.{finite_positive}
use Rattle.decomposition.specs.Axes.{DECOMPOSITION}
use Rattle.derivative.specs.Action.{most_dof}
use Rattle.normal_blocks.specs.Calls.{bad_target}
use Rattle.call_lists.specs.Calls.{Call, judged}
use Rattle.call_lists.specs.Frames.{Frames, framed, idle}
use Rattle.block_transforms.specs.Transform.{Beside, without, shape_at, through}
use Rattle.block_transforms.specs.Reasons.{bad_beside, through_reasons}
use Rattle.plane_fit.specs.Fit.{frame_count, fit_mean}
use Rattle.plane_fit.specs.Calls.{bad_frames, bad_fixed, bad_actions}
use Rattle.plane_fit.specs.Axis.{smallest_axis}
use Rattle.plane.specs.declared.Plane.{Plane}
use Rattle.frame_cost.specs.Cost.{weight_of, frames_cost}
use Rattle.frame_blocks.specs.Frames.{frames_under}

-- "A call's own inputs are all that is handed to it"; transforms may lie beside them
pub record FramesWork : Type 0 where
  pub dof : ℕ
  pub frames : List Float
  pub fixed : List Float
  pub sigma : Float
  pub actions : List Float
  pub decomposition : List ℕ
  pub map : List ℕ

abbrev pub work : ℕ → List Float → List Float → Float → List Float → List ℕ → List ℕ → FramesWork
work dof frames fixed sigma actions decomposition map = record {
  dof = dof;
  frames = frames;
  fixed = fixed;
  sigma = sigma;
  actions = actions;
  decomposition = decomposition;
  map = map;
}

-- ---- why it is refused: m cells of the Hessian, n of the gradient

-- 3: the frames, the fixed set, the decomposition, and the target with its map of so many words
unfoldable pub bad_lengths : List Float → List Float → List ℕ → ℕ → ℕ → ℕ → Bool
bad_lengths frames fixed decomposition words m n =
    bad_frames frames || (bad_fixed fixed || (not (eqb (length decomposition) DECOMPOSITION) || bad_target words m n))

-- and what lies beside the map
abbrev pub bad_slices : ℕ → ℕ → Beside FramesWork → Bool
bad_slices m n b =
    bad_lengths b.work.frames b.work.fixed b.work.decomposition (length b.work.map) m n
    || bad_beside (length b.work.map) (length b.shapes) (length b.transforms)

-- "accumulating tests 1, 2, 3, 7, 8, 9, 10"; "14 .. directly after 9"
unfoldable pub transformed_frames_refusal : ℕ → ℕ → Beside FramesWork → ℕ
transformed_frames_refusal m n b =
    first_of
    (1 when ltb most_dof b.work.dof ∷
    2 when eqb (length b.work.frames) 0 ∷
    3 when bad_slices m n b ∷
    7 when not (finite_positive b.work.sigma) ∷
    8 when bad_actions b.work.frames b.work.actions ∷
    through_reasons b.work.map (shape_at b.shapes) (frame_count b.work.frames) b.work.dof n)

-- ---- what it is where it is accepted

-- the fit, of the decomposition that is handed in and the mean that is worked out again
unfoldable pub fit_of : FramesWork → Option Plane
fit_of w = smallest_axis w.decomposition (fit_mean w.frames w.fixed w.actions)

abbrev pub cost_under : FramesWork → List Float → Float → Float
cost_under w normal offset = frames_cost w.frames w.fixed w.actions normal offset (weight_of w.sigma)

-- the frames under a plane, and each through the transform of its word
abbrev pub plane_frames : FramesWork → List Float → Float → Frames
plane_frames w normal offset = frames_under w.dof w.frames w.actions w.map normal offset (weight_of w.sigma)

abbrev pub frames_of : Beside FramesWork → List Float → Float → Frames
frames_of b normal offset = through (shape_at b.shapes) b.transforms (plane_frames b.work normal offset)

-- frame after frame under the plane. "No plane: cost 0, no cell changed"
unfoldable pub under_fit : ℕ → Beside FramesWork → Option Plane → Call
under_fit n b (Some p) = framed n (cost_under b.work p.normal p.offset) (frames_of b p.normal p.offset)
under_fit n b None = idle zero_f

unfoldable pub called : ℕ → Beside FramesWork → Call
called n b = under_fit n b (fit_of b.work)

-- THE CALL
unfoldable pub transformed_frames_call : ℕ → ℕ → Beside FramesWork → Call
transformed_frames_call m n b = judged (transformed_frames_refusal m n b) (called n b)

-- A CALL THAT TAKES NO TRANSFORMS is one with empty slices
abbrev pub frames_refusal : ℕ → ℕ → FramesWork → ℕ
frames_refusal m n w = transformed_frames_refusal m n (without w)

abbrev pub frames_call : ℕ → ℕ → FramesWork → Call
frames_call m n w = transformed_frames_call m n (without w)
