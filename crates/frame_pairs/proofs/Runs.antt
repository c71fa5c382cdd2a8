-- A run of frames in pairs: what the parts of a pair are is what the frames of the lists from there on add and cost. Assumes nothing.
use Prim.Native.Nat.{ℕ, ◌+◌, ◌-◌, ◌*◌}
use native.Mathlib.Nat.{le_refl}
use native.Mathlib.Omega.{arith}
use mathlib.Core.Path.{◌≡◌, ap, fun_ext, ◌∙◌}
use mathlib.Core.List.{List}
use lib.ListN.{length, get_or, take, drop, length-drop}
use lib.Seq.{get_or-drop, take_all}
use lib.Ieee.{Float, nan}
use Rattle.normal_blocks.specs.Map.{lookup}
use Rattle.normal_blocks.specs.TargetLaws.{hessian_same, gradient_same}
use Rattle.call_lists.specs.Frames.{frame_hessian, frame_gradient}
use Rattle.block_transforms.specs.Transform.{ROOM, entry_from}
use Rattle.derivative.specs.Action.{action_size}
use Rattle.point_moments.specs.Scatter.{CENTRED}
use Rattle.plane_fit.specs.Fit.{frame_at, action_at}
use Rattle.frame_cost.specs.Cost.{cost_at}
use Rattle.frame_blocks.specs.Frames.{Continues, first-joined}
use Rattle.frame_blocks.proofs.Runs.{frame_from, action_from}
use Rattle.frame_pairs.specs.Pairs.{block_in, vector_in, cost_in, Holds, Parts, through_by, RunAdded, parts_in, PartsAdded}

-- a list from a place on, as a lent part of it has it
pub rest : {A : Type 0} (from : ℕ) (l : List A) → take (length l - from) (drop from l) ≡ drop from l
rest from l = take_all (length l - from) (drop from l) (rw (length-drop from l) (le_refl (length l - from)))

-- the numbers of a transform in the list from another one on
pub entry_from_lem : (t : List Float) (from k : ℕ) → entry_from (drop (ROOM * from) t) (ROOM * k) 6 ≡ entry_from t (ROOM * (from + k)) 6
unfolding entry_from
entry_from_lem t from k =
    fun_ext (λ r. fun_ext (λ c. let same : ROOM * from + (ROOM * k + (c * 6 + r)) ≡ ROOM * (from + k) + (c * 6 + r) = omega arith in
    get_or-drop (ROOM * from) t (ROOM * k + (c * 6 + r)) nan ∙ ap (λ (p : ℕ). get_or t p nan) same))

module _ (cols : ℕ) (frames actions : List Float) (map : List ℕ) (transforms n : List Float) (offset weight : Float) (from size : ℕ) (cells : List Float) where
  -- a part of the lists from frame `from` on is one of the whole lists
  holds_from : (k : ℕ) → Holds cols (entry_from (drop (ROOM * from) transforms) (ROOM * k) 6) (action_at (drop (action_size * from) actions) k) (frame_at (drop (CENTRED * from) frames) k) n offset weight k cells
      → Holds cols (entry_from transforms (ROOM * (from + k)) 6) (action_at actions (from + k)) (frame_at frames (from + k)) n offset weight k cells
  holds_from k h = rw (entry_from_lem transforms from k, action_from actions from k, frame_from frames from k) at h

  parts_continue : (order : ℕ) → Parts cols (drop (CENTRED * from) frames) (drop (action_size * from) actions) (drop (ROOM * from) transforms) n offset weight size cells
      → Continues order (through_by cols frames actions map transforms n offset weight) (parts_in cols map cells from size) (cost_at frames actions n offset weight) (cost_in cols cells) from size
  unfolding frame_hessian frame_gradient cost_at
  parts_continue order parts = record {
    hessian = λ k l. hessian_same order cols (lookup map (from + k)) (block_in cols cells k) _ (holds_from k (parts.each k l)).block;
    gradient = λ k l. gradient_same cols (lookup map (from + k)) (vector_in cols cells k) _ (holds_from k (parts.each k l)).vector;
    cost = λ k l. (holds_from k (parts.each k l)).cost;
  }

  -- A PAIR MORE
  pub pair_added : (order rows : ℕ) (s₀ s r : Float) (h₀ h h' g₀ g g' : List Float) → rows ≡ order
      → Parts cols (drop (CENTRED * from) frames) (drop (action_size * from) actions) (drop (ROOM * from) transforms) n offset weight size cells
      → PartsAdded rows cols map cells from size s r h h' g g' → RunAdded order cols frames actions map transforms n offset weight from s₀ s h₀ h g₀ g
      → RunAdded order cols frames actions map transforms n offset weight (from + size) s₀ r h₀ h' g₀ g'
  pair_added order rows s₀ s r h₀ h h' g₀ g g' e parts added before =
      first-joined order _ _ _ _ from size s₀ s r h₀ h h' g₀ g g' (parts_continue order parts) (rw e at added) before
