-- Laws of frames that are added through transforms: one frame, a loop over them, and the call. Assumes nothing.
use Prim.Native.Nat.{ℕ, zero, suc, ◌+◌, ◌-◌, ◌*◌, ◌≤◌, ◌<◌}
use native.Mathlib.Numerals.{add-one}
use native.Mathlib.Nat.{sub_self}
use native.Mathlib.Omega.{arith}
use mathlib.Core.Path.{◌≡◌, refl, sym, ap, ◌∙◌}
use mathlib.Core.Bool.{false}
use mathlib.Core.List.{List}
use lib.ListN.{length}
use lib.Ieee.{Float}
use Rattle.sums.specs.Sum.{◌⊕◌, zero_f, sum_from_zero}
use Rattle.terms.specs.Terms.{add_all}
use Rattle.terms.proofs.Laws.{block_same, segment-same}
use Rattle.std.specs.Prelude.{Option, Some, None}
use Rattle.normal_blocks.specs.Map.{lookup, exceeds}
use Rattle.normal_blocks.proofs.Laws.{lookup-past, fits}
use Rattle.normal_blocks.specs.TargetLaws.{hessian_mapped, gradient_mapped, hessian_unmapped, gradient_unmapped}
use Rattle.call_lists.specs.Accumulated.{Accumulated}
use Rattle.block_transforms.specs.Transform.{Beside, ROOM, sized, shape_at, entry_from, block_under, vector_under, width_under, width_at}
use Rattle.block_transforms.proofs.Laws.{transform_fits, every_fits, transform_there}
use Rattle.block_transforms.specs.declared.Shape.{Shape}
use Rattle.transform_products.specs.Rows.{rows_of, spaced, AddedRows, AddedThrough}
use Rattle.transform_products.proofs.Laws.{Tall, under_same, under_run}
use Rattle.point_moments.specs.declared.scatter.Centred.{Centred}
use Rattle.plane_fit.specs.Fit.{frame_count, frame_at, action_at, and_fixed}
use Rattle.plane.specs.declared.Plane.{Plane}
use Rattle.frame_segment.specs.Frame.{block_entry, pulled_entry}
use Rattle.frame_segment.specs.Steps.{Added, Held}
use Rattle.frame_stored.specs.Stored.{FrameStored}
use Rattle.frame_parts.specs.Frame.{vector_entry}
use Rattle.frame_cost.specs.Cost.{weight_of, frame_cost, fixed_cost, cost_at}
use Rattle.frame_cost.specs.declared.Pull.{Pull}
use Rattle.frame_blocks.specs.Pulls.{pull_at}
use Rattle.frame_blocks.specs.Frames.{FirstAdded, first-none, first_more, all_added}
use Rattle.plane_moments.specs.Accumulate.{FramesWork, transformed_frames_refusal, fit_of, transformed_frames_call}
use Rattle.plane_moments.proofs.Accumulating.{accepted_call, plane_call}
use Rattle.transformed_frames.specs.Frames.{through_under, There, Ready, FrameAdded, frames_from, Continued, Summed, AllAdded}

-- ---- stored numbers at row `at`, without a transform and with one
module _ (order at dof stride : ℕ) (s : Option Shape) (t : List Float) (from : ℕ) (m h h' g g' : List Float) where
  abbrev StoredAdded : Type 0
  StoredAdded = Added order at (width_under s dof) (block_under s (entry_from t from) (rows_of stride m)) (vector_under s (entry_from t from) (spaced stride m dof)) h h' g g'

  pub rows_added : s ≡ None → AddedRows order at dof stride m h h' g g' → StoredAdded
  rows_added q a = rw q (record { hessian = a.hessian; gradient = a.gradient })

  pub through_added : (rows cols : ℕ) (u : List Float) → s ≡ sized rows cols → rows ≡ dof → AddedThrough order at rows cols stride t from m u h h' g g' → StoredAdded
  through_added rows cols u q tall a = rw (q, sym tall) (record { hessian = a.hessian; gradient = a.gradient })

  -- and they are a frame's
  pub frame_added : (x : List Float) (f : Centred) (n turn : List Float) (shift weight : Float) → Tall dof s → FrameStored x f n turn shift weight dof stride m → StoredAdded
      → Added order at (width_under s dof) (block_under s (entry_from t from) (block_entry x f n weight)) (vector_under s (entry_from t from) (pulled_entry x f n turn shift weight)) h h' g g'
  frame_added x f n turn shift weight tall are a = record {
    hessian = a.hessian ∙ ap (add_all h) (block_same order at (width_under s dof) _ _ (under_same dof s (entry_from t from) (rows_of stride m) (block_entry x f n weight) tall are.block_is));
    gradient = a.gradient ∙ ap (add_all g) (segment-same at (width_under s dof) _ _ (under_run dof s (entry_from t from) (spaced stride m dof) (pulled_entry x f n turn shift weight) tall are.vector_is));
  }

-- ---- a frame at an offset, and one that goes nowhere
module _ (order dof : ℕ) (s : Option Shape) (t : ℕ → ℕ → ℕ → Float) (p : Option ℕ) (e : ℕ → ℕ → Float) (v : ℕ → Float) (h h' g g' : List Float) where
  pub frame_mapped : (at : ℕ) → p ≡ Some at → Added order at (width_under s dof) (block_under s t e) (vector_under s t v) h h' g g' → FrameAdded order dof s t p e v h h' g g'
  frame_mapped at mapped a = record {
    hessian = hessian_mapped (width_under s dof) p at mapped order (block_under s t e) h h' a.hessian;
    gradient = gradient_mapped (width_under s dof) p at mapped (vector_under s t v) g g' a.gradient;
  }

pub frame_unmapped : (order dof : ℕ) (s : Option Shape) (t : ℕ → ℕ → ℕ → Float) (p : Option ℕ) (e : ℕ → ℕ → Float) (v : ℕ → Float) (h g : List Float) → p ≡ None → FrameAdded order dof s t p e v h h g g
frame_unmapped order dof s t p e v h g nowhere = record {
  hessian = hessian_unmapped (width_under s dof) p nowhere order (block_under s t e) h;
  gradient = gradient_unmapped (width_under s dof) p nowhere (vector_under s t v) g;
}

-- ---- what a call that is ready has at each frame
module _ (cells order dof : ℕ) (frames actions : List Float) (map shapes : List ℕ) (transforms : List Float) (ready : Ready cells order dof frames actions map shapes transforms) where
  pub ready_fits : (rows k : ℕ) (p : Option ℕ) (s : Option Shape) → rows ≡ order → p ≡ lookup map k → s ≡ shape_at shapes k → k < frame_count frames → exceeds rows (width_under s dof) p ≡ false
  unfolding width_at
  ready_fits rows k p s e at sh l = rw (e, at, sh) (fits order (width_at (shape_at shapes) dof) (lookup map) (frame_count frames) ready.fits k l)

  pub ready_there : (k : ℕ) (s : Option Shape) → s ≡ shape_at shapes k → There dof k s transforms
  ready_there k s e = rw e (ready.there k)

  pub ready_held : (k : ℕ) → k < frame_count frames → Held frames actions k
  ready_held k l = record { frame = omega arith; action = omega (arith, ready.acted) }

  pub ready_square : (h g : ℕ) → h ≡ cells → g ≡ order → h ≡ g * g
  ready_square h g e q = rw (e, q) ready.square

-- ---- the loop: nothing yet, and one frame more
module _ (order dof : ℕ) (frames actions : List Float) (map shapes : List ℕ) (transforms n : List Float) (offset weight : Float) (from : ℕ) (start : Float) (h₀ g₀ : List Float) where
  pub continued_none : Continued order dof frames actions map shapes transforms n offset weight from from start start h₀ h₀ g₀ g₀
  continued_none = rw (sub_self from) (first-none order _ _ start h₀ g₀)

  continued_at : (j rows : ℕ) (p : Option ℕ) (s : Option Shape) (q : Pull) (sum : Float) (h h' g g' : List Float) → rows ≡ order → p ≡ lookup map (from + j) → s ≡ shape_at shapes (from + j)
      → q ≡ pull_at frames actions n offset weight (from + j)
      → FrameAdded rows dof s (entry_from transforms (ROOM * (from + j))) p (block_entry (action_at actions (from + j)) (frame_at frames (from + j)) n weight) (pulled_entry (action_at actions (from + j)) (frame_at frames (from + j)) n q.turn q.shift weight) h h' g g'
      → FirstAdded order (frames_from from (through_under dof frames actions map shapes transforms n offset weight)) (λ k. cost_at frames actions n offset weight (from + k)) j start sum h₀ h g₀ g
      → FirstAdded order (frames_from from (through_under dof frames actions map shapes transforms n offset weight)) (λ k. cost_at frames actions n offset weight (from + k)) (j + 1) start (sum ⊕ q.cost) h₀ h' g₀ g'
  unfolding cost_at frame_cost pull_at vector_entry width_at
  continued_at j rows p s q sum h h' g g' el ep es eq a before =
      first_more order (frames_from from (through_under dof frames actions map shapes transforms n offset weight)) _ j p _ _ q.cost start sum h₀ h h' g₀ g g' ep (λ i j li lj. refl) (λ i li. refl) (ap (λ (o : Pull). o.cost) eq)
      (rw (el, es) at a.hessian) (rw (es, eq) at a.gradient) before

  pub continued_more : (k rows : ℕ) (p : Option ℕ) (s : Option Shape) (q : Pull) (sum : Float) (h h' g g' : List Float) → from ≤ k → rows ≡ order → p ≡ lookup map k → s ≡ shape_at shapes k
      → q ≡ pull_at frames actions n offset weight k
      → FrameAdded rows dof s (entry_from transforms (ROOM * k)) p (block_entry (action_at actions k) (frame_at frames k) n weight) (pulled_entry (action_at actions k) (frame_at frames k) n q.turn q.shift weight) h h' g g'
      → Continued order dof frames actions map shapes transforms n offset weight from k start sum h₀ h g₀ g
      → Continued order dof frames actions map shapes transforms n offset weight from (k + 1) start (sum ⊕ q.cost) h₀ h' g₀ g'
  continued_more k rows p s q sum h h' g g' b el ep es eq a before =
      let here : k ≡ from + (k - from) = omega arith in
      let next : k + 1 - from ≡ (k - from) + 1 = omega arith in
      rw next (continued_at (k - from) rows p s q sum h h' g g' el (rw here at ep) (rw here at es) (rw here at eq) (rw here at a) before)

-- ---- without a map no frame goes anywhere
module _ (order dof : ℕ) (frames actions : List Float) (map shapes : List ℕ) (transforms n : List Float) (offset weight : Float) where
  unmapped : (k : ℕ) (h g : List Float) → length map ≡ 0 → Summed order dof frames actions map shapes transforms n offset weight k (sum_from_zero k (cost_at frames actions n offset weight)) h h g g
  unmapped zero h g e = first-none order _ _ zero_f h g
  unmapped (suc k) h g e =
      let all = through_under dof frames actions map shapes transforms n offset weight in
      let nowhere : lookup map k ≡ None = sym (lookup-past map k (omega arith)) in
      rw (add-one k) at (first_more order all _ k (lookup map k) (all.block k) (all.vector k) _ zero_f _ h h h g g g refl (λ i j li lj. refl) (λ i li. refl) refl
      (hessian_unmapped (all.layout.width k) (lookup map k) nowhere order (all.block k) h) (gradient_unmapped (all.layout.width k) (lookup map k) nowhere (all.vector k) g) (unmapped k h g e))

  pub all_alone : (fixed : List Float) (count : ℕ) (s r : Float) (h g : List Float) → count ≡ frame_count frames → length map ≡ 0
      → s ≡ sum_from_zero count (cost_at frames actions n offset weight) → r ≡ and_fixed fixed (λ f. fixed_cost f n offset weight) s
      → AllAdded order dof frames fixed actions map shapes transforms n offset weight r h h g g
  all_alone fixed count s r h g e none q p = all_added order _ frames actions n offset weight fixed count s r h h g g e p (rw q (unmapped count h g none))

-- ---- an accepted call: what its work may rely on, and what it has done with a plane
pub ready_call : (m n : ℕ) (b : Beside FramesWork) → transformed_frames_refusal m n b ≡ 0 → Ready m n b.work.dof b.work.frames b.work.actions b.work.map b.shapes b.transforms
ready_call m n b e =
    let a = accepted_call m n b e in
    let dof = b.work.dof in
    let words = length b.work.map in
    record {
      narrow = a.narrow;
      square = a.square;
      acted = a.acted;
      fits = a.last.fits;
      there = λ k rows cols is.
          let p = transform_there words b.shapes (length b.transforms) k rows cols a.slices is in
          let f = transform_fits dof rows cols (shape_at b.shapes k) is (every_fits dof (shape_at b.shapes) words a.last.fitting k p.0) in
          (f.narrow, f.tall, p.1);
    }

pub all_call : (h g : List Float) (x : Float) (b : Beside FramesWork) (p : Plane) (weight r : Float) (h' g' : List Float) → transformed_frames_refusal (length h) (length g) b ≡ 0
    → fit_of b.work ≡ Some p → weight ≡ weight_of b.work.sigma
    → AllAdded (length g) b.work.dof b.work.frames b.work.fixed b.work.actions b.work.map b.shapes b.transforms p.normal p.offset weight r h h' g g'
    → Accumulated (transformed_frames_call (length h) (length g) b) h g x 0 h' g' r
all_call h g x b p weight r h' g' e found weighed added =
    let all : AllAdded (length g) b.work.dof b.work.frames b.work.fixed b.work.actions b.work.map b.shapes b.transforms p.normal p.offset (weight_of b.work.sigma) r h h' g g' = rw weighed at added in
    plane_call h g x b e p r h' g' found all.cost all.hessian all.gradient
