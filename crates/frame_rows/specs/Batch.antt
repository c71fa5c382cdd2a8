-- The rows of a batch of frames: what they are, and what their room is. Assumes nothing.
use Rattle.std.specs.Prelude.{ℕ, ◌+◌, ◌*◌, ◌<◌, ◌≤◌, ◌≡◌, List, length, Float}
use Rattle.std.proofs.Common.{ap, ap₂, ◌∙◌}
use Rattle.action.specs.Carried.{carried}
use Rattle.derivative.specs.Action.{action_size}
use Rattle.point_moments.specs.declared.scatter.Centred.{Centred}
use Rattle.plane_fit.specs.Fit.{frame_at, action_at, frame_count}
use Rattle.frame_normal.specs.Normal.{normal_in, along_of}
use Rattle.frame_rows.specs.Steps.{rows_of, column_of}
use Rattle.frame_roots.specs.Batch.{BATCH}
use Rattle.frame_roots.specs.declared.Root.{Root}
use Rattle.frame_rows.specs.declared.Fitted.{Fitted}

-- the four residuals of frame f, and column c of its block, by its root
abbrev pub residual_rows : List Float → List Float → Fitted → Root → ℕ → List Float
residual_rows frames actions p root f =
    rows_of root (normal_in (action_at actions f) p.plane.normal) (along_of p.plane.normal p.plane.offset (carried (action_at actions f) (frame_at frames f).mean)) p.info

abbrev pub column_rows : List Float → List Float → Fitted → ℕ → Root → ℕ → List Float
column_rows frames actions p c root f = column_of (action_at actions f) p.plane.normal (frame_at frames f).mean root p.info c

-- what the columns of a batch of frames ask
pub record BatchRoom (frames actions : List Float) (from size width rows cells : ℕ) : Type 0 where
  pub some : 0 < size
  pub few : size ≤ BATCH
  pub within : from + size ≤ frame_count frames
  pub actions_whole : length actions ≡ action_size * frame_count frames
  pub rows_whole : rows ≡ (frame_count frames + 1) * 4
  pub cells_whole : cells ≡ frame_count frames * width * ((frame_count frames + 1) * 4)
  pub narrow : width ≤ 9

-- ---- laws

-- the residuals by what was read and worked out of frame f
pub residual-rows : (frames actions : List Float) (p : Fitted) (f : ℕ) (q root : Root) (s : Centred) (x a w : List Float) (e : Float)
    → root ≡ q → s ≡ frame_at frames f → x ≡ action_at actions f → a ≡ normal_in x p.plane.normal → w ≡ carried x s.mean → e ≡ along_of p.plane.normal p.plane.offset w
    → rows_of root a e p.info ≡ residual_rows frames actions p q f
residual-rows frames actions p f q root s x a w e hq hs hx ha hw he =
    ap (λ (r : Root). rows_of r a e p.info) hq
    ∙ ap₂ (λ (v : List Float) (t : Float). rows_of q v t p.info) (ha ∙ ap (λ (y : List Float). normal_in y p.plane.normal) hx) (he ∙ ap (λ (y : List Float). along_of p.plane.normal p.plane.offset y) (hw ∙ ap₂ (λ (y : List Float) (z : Centred). carried y z.mean) hx hs))
