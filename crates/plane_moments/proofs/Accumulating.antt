-- Laws of accumulating frames: what an accepted call is known by, the ways out, and a call without transforms. Assumes nothing.
use Prim.Native.Nat.{ℕ, ◌*◌, ◌≤◌}
use native.Mathlib.Nat.{le_of_eq}
use mathlib.Core.Path.{◌≡◌, refl, sym, ap, ap₂, ◌∙◌}
use mathlib.Core.Bool.{Bool, true, false, not, ◌||◌, cond}
use mathlib.Core.List.{List, [], ◌∷◌}
use lib.Dec.{ltb, eqb}
use lib.ListN.{length}
use lib.Ieee.{Float}
use borrow.Author.Tests.{ltb-false, eqb-true, not-false}
use Rattle.refusals.specs.Refusal.{◌when◌, first_of, none, either_none}
use Rattle.sums.specs.Sum.{zero_f}
use Rattle.validate.specs.Finite.{finite_positive}
use Rattle.decomposition.specs.Axes.{DECOMPOSITION}
use Rattle.derivative.specs.Action.{action_size, most_dof}
use Rattle.point_moments.specs.Scatter.{CENTRED}
use Rattle.terms.specs.Terms.{add_all, upto}
use Rattle.normal_blocks.specs.Calls.{map_reasons, map_refusal, square}
use Rattle.call_lists.specs.Frames.{Frames, frame_hessian, frame_gradient}
use Rattle.call_lists.specs.Accumulated.{Accumulated}
use Rattle.call_lists.specs.Outcomes.{accumulated_refused, accumulated_idle, accumulated_framed}
use Rattle.block_transforms.specs.Transform.{Beside, without, shape_at}
use Rattle.block_transforms.specs.Reasons.{bad_beside, through_refusal}
use Rattle.block_transforms.proofs.Laws.{Passed, passed, exceeds-none, refusal_none, through-none}
use Rattle.plane_fit.specs.Fit.{Shaped, frame_count, fit_mean}
use Rattle.plane_fit.specs.Calls.{bad_frames, bad_fixed, bad_actions, one_each, shaped}
use Rattle.plane_fit.specs.Axis.{smallest_axis}
use Rattle.std.specs.Prelude.{Option, Some, None}
use Rattle.plane.specs.declared.Plane.{Plane}
use Rattle.frame_cost.specs.Cost.{weight_of}
use Rattle.frame_blocks.specs.Frames.{Ready, AllAdded}
use Rattle.plane_moments.specs.Accumulate.{FramesWork, bad_lengths, bad_slices, transformed_frames_refusal, fit_of, cost_under, plane_frames, frames_of, under_fit, called, transformed_frames_call, frames_refusal, frames_call}

-- ---- what is known where no test applies
pub record Accepted (m n : ℕ) (b : Beside FramesWork) : Type 0 where
  pub narrow : b.work.dof ≤ most_dof
  pub square : m ≡ n * n
  pub acted : action_size * frame_count b.work.frames ≤ length b.work.actions
  pub slices : bad_beside (length b.work.map) (length b.shapes) (length b.transforms) ≡ false
  pub last : Passed b.work.map (shape_at b.shapes) (frame_count b.work.frames) b.work.dof n
  pub whole : Shaped b.work.frames b.work.fixed b.work.actions
  pub twelve : length b.work.decomposition ≡ DECOMPOSITION

pub accepted_call : (m n : ℕ) (b : Beside FramesWork) → transformed_frames_refusal m n b ≡ 0 → Accepted m n b
unfolding transformed_frames_refusal bad_lengths through_refusal
accepted_call m n b h =
    let w = b.work in
    let one = none (ltb most_dof w.dof) 0 _ h in
    let two = none (eqb (length w.frames) 0) 1 _ one.1 in
    let three = none (bad_slices m n b) 2 _ two.1 in
    let seven = none (not (finite_positive w.sigma)) 6 _ three.1 in
    let eight = none (bad_actions w.frames w.actions) 7 _ seven.1 in
    let slices = either_none (bad_lengths w.frames w.fixed w.decomposition (length w.map) m n) _ three.0 in
    let frames = either_none (bad_frames w.frames) _ slices.0 in
    let fixed = either_none (bad_fixed w.fixed) _ frames.1 in
    let twelve = either_none (not (eqb (length w.decomposition) DECOMPOSITION)) _ fixed.1 in
    record {
      narrow = ltb-false most_dof w.dof one.0;
      square = (square (length w.map) m n twelve.1).1;
      acted = le_of_eq (sym (one_each CENTRED w.frames action_size w.actions eight.0));
      slices = slices.1;
      last = passed w.map (shape_at b.shapes) (frame_count w.frames) w.dof n eight.1;
      whole = shaped w.frames w.fixed w.actions frames.0 fixed.0 eight.0;
      twelve = eqb-true (length w.decomposition) DECOMPOSITION (not-false _ twelve.0);
    }

-- the fit as it is worked out
pub fit_is : (w : FramesWork) (mean : List Float) (r : Option Plane) → mean ≡ fit_mean w.frames w.fixed w.actions → r ≡ smallest_axis w.decomposition mean → fit_of w ≡ r
unfolding fit_of
fit_is w mean r e q = sym (q ∙ ap (smallest_axis w.decomposition) e)

-- ---- the ways out: refused, without plane, and with all frames added
module _ (h g : List Float) (x : Float) (b : Beside FramesWork) where
  pub refused_call : (r : ℕ) → r ≡ transformed_frames_refusal (length h) (length g) b → (r ≡ 0 → ⊥) → Accumulated (transformed_frames_call (length h) (length g) b) h g x r h g x
  unfolding transformed_frames_call
  refused_call r e no_zero = accumulated_refused h g x (transformed_frames_refusal (length h) (length g) b) r (called (length g) b) e no_zero

  module _ (accepted : transformed_frames_refusal (length h) (length g) b ≡ 0) where
    pub no_plane_call : fit_of b.work ≡ None → Accumulated (transformed_frames_call (length h) (length g) b) h g x 0 h g zero_f
    unfolding transformed_frames_call called under_fit
    no_plane_call none = rw none (accumulated_idle h g x (transformed_frames_refusal (length h) (length g) b) zero_f accepted)

    pub plane_call : (p : Plane) (r : Float) (h' g' : List Float) → fit_of b.work ≡ Some p → r ≡ cost_under b.work p.normal p.offset
        → h' ≡ add_all h (upto (frame_count b.work.frames) (frame_hessian (length g) (frames_of b p.normal p.offset)))
        → g' ≡ add_all g (upto (frame_count b.work.frames) (frame_gradient (frames_of b p.normal p.offset)))
        → Accumulated (transformed_frames_call (length h) (length g) b) h g x 0 h' g' r
    unfolding transformed_frames_call called under_fit
    plane_call p r h' g' found cost hessian gradient =
        rw found
        (accumulated_framed h g x (transformed_frames_refusal (length h) (length g) b) (length g) (cost_under b.work p.normal p.offset) r (frames_of b p.normal p.offset) h' g' accepted cost hessian gradient)

-- ---- WITHOUT TRANSFORMS, which document 01 knows nothing of: its tests, and its frames
abbrev first_tests : FramesWork → Bool → ℕ → ℕ
first_tests w misfit rest =
    cond (ltb most_dof w.dof) 1 (cond (eqb (length w.frames) 0) 2 (cond misfit 3 (cond (not (finite_positive w.sigma)) 7 (cond (bad_actions w.frames w.actions) 8 rest))))

slices_none : (m n : ℕ) (w : FramesWork) → bad_slices m n (without w) ≡ bad_lengths w.frames w.fixed w.decomposition (length w.map) m n
unfolding bad_beside
slices_none m n w = go (bad_lengths w.frames w.fixed w.decomposition (length w.map) m n)
  where
    go : (t : Bool) → (t || false) ≡ t
    go true = refl
    go false = refl

pub plain_refusal : (m n : ℕ) (w : FramesWork) → frames_refusal m n w ≡ first_of
    (1 when ltb most_dof w.dof ∷
    2 when eqb (length w.frames) 0 ∷
    3 when bad_lengths w.frames w.fixed w.decomposition (length w.map) m n ∷
    7 when not (finite_positive w.sigma) ∷
    8 when bad_actions w.frames w.actions ∷
    map_reasons w.map (frame_count w.frames) w.dof n)
unfolding transformed_frames_refusal through_refusal map_refusal
plain_refusal m n w = ap₂ (first_tests w) (slices_none m n w) (refusal_none w.map (frame_count w.frames) w.dof n)

pub plain_frames : (w : FramesWork) (normal : List Float) (offset : Float) → frames_of (without w) normal offset ≡ plane_frames w normal offset
plain_frames w normal offset = through-none [] (plane_frames w normal offset)

pub plain_ready : (m n : ℕ) (w : FramesWork) → frames_refusal m n w ≡ 0 → Ready m n w.dof w.frames w.actions w.map
plain_ready m n w h =
    let a = accepted_call m n (without w) h in
    record { narrow = a.narrow; square = a.square; acted = a.acted; fits = sym (exceeds-none n w.dof w.map (frame_count w.frames)) ∙ a.last.fits }

pub plain_call : (h g : List Float) (x : Float) (w : FramesWork) (p : Plane) (weight r : Float) (h' g' : List Float) → frames_refusal (length h) (length g) w ≡ 0
    → fit_of w ≡ Some p → weight ≡ weight_of w.sigma
    → AllAdded (length g) w.dof w.frames w.fixed w.actions w.map p.normal p.offset weight r h h' g g' → Accumulated (frames_call (length h) (length g) w) h g x 0 h' g' r
plain_call h g x w p weight r h' g' accepted found weighed added =
    let all : AllAdded (length g) w.dof w.frames w.fixed w.actions w.map p.normal p.offset (weight_of w.sigma) r h h' g g' = rw weighed at added in
    let same = sym (plain_frames w p.normal p.offset) in
    plane_call h g x (without w) accepted p r h' g' found all.cost
    (all.hessian ∙ ap (λ (f : Frames). add_all h (upto (frame_count w.frames) (frame_hessian (length g) f))) same)
    (all.gradient ∙ ap (λ (f : Frames). add_all g (upto (frame_count w.frames) (frame_gradient f))) same)
