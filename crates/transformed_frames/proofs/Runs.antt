-- Laws of a run of frames of one shape: its lists are those of the call from its first frame on, and so it continues what is added before it. Assumes nothing.
use Prim.Native.Nat.{ℕ, ◌+◌, ◌*◌, ◌-◌, ◌≤◌, ◌<◌}
use native.Mathlib.Nat.{zero-add}
use native.Mathlib.Omega.{arith}
use mathlib.Core.Path.{◌≡◌, refl, sym, ap, ap₂, ◌∙◌}
use mathlib.Core.Bool.{Bool, true, false}
use mathlib.Core.Logic.{◌⊎◌, ⊎_elim}
use mathlib.Core.List.{List}
use lib.Dec.{ltb}
use lib.ListN.{length, take, drop, length-drop, drop_of_length-le}
use lib.Ieee.{Float}
use borrow.Author.Tests.{ltb-true, ltb-false}
use Rattle.sums.specs.Sum.{zero_f}
use Rattle.normal_blocks.specs.Map.{lookup, exceeds}
use Rattle.normal_blocks.proofs.Laws.{fits}
use Rattle.call_lists.specs.Frames.{Frames, frame_hessian, frame_gradient}
use Rattle.block_transforms.specs.Transform.{ROOM, sized, shape_at, width_under, width_at}
use Rattle.block_transforms.specs.declared.Shape.{Shape}
use Rattle.std.specs.Prelude.{Option, None}
use Rattle.derivative.specs.Action.{action_size}
use Rattle.point_moments.specs.Scatter.{CENTRED}
use Rattle.plane_fit.specs.Fit.{frame_count}
use Rattle.frame_cost.specs.Cost.{cost_at}
use Rattle.frame_blocks.specs.Frames.{frames_under, FirstAdded, Continues, first-none, first-joined}
use Rattle.frame_blocks.specs.Frames as plain
use Rattle.frame_blocks.proofs.Runs.{frame_from, action_from, lookup_from, count_from}
use Rattle.frame_pairs.specs.Pairs.{through_by}
use Rattle.frame_pairs.specs.Pairs as pairs
use Rattle.frame_pairs.proofs.Runs.{rest, entry_from_lem}
use Rattle.transformed_frames.specs.Frames.{through_under, Ready, Alike, RunReady, frames_from, Continued, Summed}

-- ---- where a run ends: after its first frame, and one frame more
pub alike_one : (shapes : List ℕ) (from : ℕ) → Alike shapes from (from + 1)
alike_one shapes from k a b = ap (shape_at shapes) (omega arith)

pub alike_more : (shapes : List ℕ) (from to : ℕ) (s t : Option Shape) → s ≡ shape_at shapes from → t ≡ shape_at shapes to → t ≡ s → Alike shapes from to → Alike shapes from (to + 1)
alike_more shapes from to s t es et e before k a b = go (ltb k to) refl
  where
    go : (i : Bool) → ltb k to ≡ i → shape_at shapes k ≡ shape_at shapes from
    go true q = before k a (ltb-true k to q)
    go false q =
        let last : k ≡ to = omega (arith, ltb-false k to q) in
        ap (shape_at shapes) last ∙ sym et ∙ e ∙ es

-- ---- a run of a call that is ready, the two slices being as long as they were
pub run_ready : (cells order dof : ℕ) (frames actions : List Float) (map shapes : List ℕ) (transforms : List Float) → Ready cells order dof frames actions map shapes transforms
    → (h g from to count : ℕ) → h ≡ cells → g ≡ order → count ≡ frame_count frames → (from < to) × (to ≤ count) × Alike shapes from to
    → RunReady h g dof frames actions map shapes transforms from to
run_ready cells order dof frames actions map shapes transforms ready h g from to count eh eg e p = rw (eh, eg) (record {
  ready = ready;
  some = p.0;
  held = omega arith;
  alike = p.2;
})

-- what it adds comes after what was summed before it
pub run_summed : (order dof : ℕ) (frames actions : List Float) (map shapes : List ℕ) (transforms n : List Float) (offset weight : Float) (rows from to : ℕ) (s r : Float) (h₀ h h' g₀ g g' : List Float) → rows ≡ order → from < to
    → Continued rows dof frames actions map shapes transforms n offset weight from to s r h h' g g' → Summed order dof frames actions map shapes transforms n offset weight from s h₀ h g₀ g
    → Summed order dof frames actions map shapes transforms n offset weight to r h₀ h' g₀ g'
unfolding frame_hessian frame_gradient
run_summed order dof frames actions map shapes transforms n offset weight rows from to s r h₀ h h' g₀ g g' e some continued before =
    let all = through_under dof frames actions map shapes transforms n offset weight in
    let ends : from + (to - from) ≡ to = omega arith in
    rw ends at (first-joined order all _ (frames_from from all) _ from (to - from) zero_f s r h₀ h h' g₀ g g' (record { hessian = λ k l. refl; gradient = λ k l. refl; cost = λ k l. refl }) (rw e at continued) before)

-- frames that continue a call's are the call's frames from there on
continued_by : (order : ℕ) (all batch : Frames) (costs costs' : ℕ → Float) (from size : ℕ) (s r : Float) (h h' g g' : List Float) → Continues order all batch costs costs' from size
    → FirstAdded order batch costs' size s r h h' g g' → FirstAdded order (frames_from from all) (λ k. costs (from + k)) size s r h h' g g'
unfolding frame_hessian frame_gradient
continued_by order all batch costs costs' from size s r h h' g g' same added =
    rw zero-add at (first-joined order (frames_from from all) (λ k. costs (from + k)) batch costs' 0 size s s r h h h' g g g'
    (record { hessian = λ k l. rw (zero-add k) (same.hessian k l); gradient = λ k l. rw (zero-add k) (same.gradient k l); cost = λ k l. rw (zero-add k) (same.cost k l) }) added (first-none order (frames_from from all) (λ k. costs (from + k)) s h g))

-- a shape whose rows and columns were tested
pub shape_is : (s : Option Shape) (rows cols r c : ℕ) → s ≡ sized rows cols → rows ≡ r → cols ≡ c → s ≡ sized r c
shape_is s rows cols r c e er ec = e ∙ ap₂ sized er ec

pub is_five : (cols : ℕ) → (cols ≡ 3) ⊎ (cols ≡ 5) → (cols ≡ 3 → ⊥) → cols ≡ 5
is_five cols p other = ⊎_elim (λ e. absurd (other e)) (λ e. e) p

-- ---- the lists from the first frame of a run on

-- nothing is left of a list past its end
pub drop_past : (first size : ℕ) (l : List ℕ) → length l ≡ size → size ≤ first → drop size l ≡ drop first l
drop_past first size l e q = drop_of_length-le l {i = size} (omega arith) ∙ sym (drop_of_length-le l {i = first} (omega arith))

-- a list from a place on, as a lent part of it has it
abbrev onward : {A : Type 0} → ℕ → List A → List A
onward from l = take (length l - from) (drop from l)

module _ (cells order dof : ℕ) (frames actions : List Float) (map shapes : List ℕ) (transforms : List Float) (from to : ℕ) (run : RunReady cells order dof frames actions map shapes transforms from to) where
  -- the shape of each of its frames
  module _ (k : ℕ) (l : k < to - from) where
    shape_in : shape_at shapes (from + k) ≡ shape_at shapes from
    shape_in = run.alike (from + k) (omega arith) (omega arith)

    fits_in : exceeds order (width_under (shape_at shapes from) dof) (lookup (drop from map) k) ≡ false
    unfolding width_at
    fits_in = rw (lookup_from map from k, ← shape_in) (fits order (width_at (shape_at shapes) dof) (lookup map) (frame_count frames) run.ready.fits (from + k) (omega (arith, run.held)))

  -- the lists from its first frame on hold its frames
  framed_in : CENTRED * (to - from) ≤ length (drop (CENTRED * from) frames)
  framed_in = rw (length-drop (CENTRED * from) frames) (omega (arith, run.held, run.some))

  acted_in : action_size * (to - from) ≤ length (drop (action_size * from) actions)
  acted_in = rw (length-drop (action_size * from) actions) (omega (arith, run.held, run.some, run.ready.acted))

  -- ---- without transforms
  module _ (none : shape_at shapes from ≡ None) (place : ℕ) (from-there : drop place map ≡ drop from map) where
    pub plain_ready : plain.RunReady cells order dof (onward (CENTRED * from) frames) (onward (action_size * from) actions) (onward place map) (to - from)
    plain_ready = rw (rest (CENTRED * from) frames, rest (action_size * from) actions, rest place map, from-there) (record {
      narrow = run.ready.narrow;
      square = run.ready.square;
      held = count_from frames from (to - from) (omega (arith, run.held, run.some));
      acted = acted_in;
      fits = λ k l. rw none at (fits_in k l);
    })

    module _ (n : List Float) (offset weight : Float) where
      plain_continues : Continues order (through_under dof frames actions map shapes transforms n offset weight) (frames_under dof (drop (CENTRED * from) frames) (drop (action_size * from) actions) (drop from map) n offset weight) (cost_at frames actions n offset weight) (cost_at (drop (CENTRED * from) frames) (drop (action_size * from) actions) n offset weight) from (to - from)
      unfolding frame_hessian frame_gradient cost_at width_at
      plain_continues = record {
        hessian = λ k l. rw (shape_in k l, none, frame_from frames from k, action_from actions from k, lookup_from map from k);
        gradient = λ k l. rw (shape_in k l, none, frame_from frames from k, action_from actions from k, lookup_from map from k);
        cost = λ k l. rw (frame_from frames from k, action_from actions from k);
      }

      pub plain_continued : (s r : Float) (h h' g g' : List Float) → plain.RunAdded order dof (onward (CENTRED * from) frames) (onward (action_size * from) actions) (onward place map) n offset weight (to - from) s r h h' g g'
          → Continued order dof frames actions map shapes transforms n offset weight from to s r h h' g g'
      plain_continued s r h h' g g' added =
          continued_by order _ _ _ _ from (to - from) s r h h' g g' plain_continues (rw (rest (CENTRED * from) frames, rest (action_size * from) actions, rest place map, from-there) at added)

  -- ---- through transforms of six rows
  module _ (cols : ℕ) (tall : shape_at shapes from ≡ sized 6 cols) (place : ℕ) (from-there : drop place map ≡ drop from map) where
    there_in : ROOM * (to - from) ≤ length (drop (ROOM * from) transforms)
    there_in =
        let last : shape_at shapes (to - 1) ≡ sized 6 cols = run.alike (to - 1) (omega (arith, run.some)) (omega (arith, run.some)) ∙ tall in
        rw (length-drop (ROOM * from) transforms) (omega (arith, run.some, (run.ready.there (to - 1) 6 cols last).2))

    pub sized_ready : pairs.RunReady cells order cols (onward (CENTRED * from) frames) (onward (action_size * from) actions) (onward place map) (onward (ROOM * from) transforms) (to - from)
    sized_ready = rw (rest (CENTRED * from) frames, rest (action_size * from) actions, rest place map, rest (ROOM * from) transforms, from-there) (record {
      square = run.ready.square;
      framed = framed_in;
      acted = acted_in;
      there = there_in;
      fits = λ k l. rw tall at (fits_in k l);
    })

    module _ (n : List Float) (offset weight : Float) where
      sized_continues : Continues order (through_under dof frames actions map shapes transforms n offset weight) (through_by cols (drop (CENTRED * from) frames) (drop (action_size * from) actions) (drop from map) (drop (ROOM * from) transforms) n offset weight) (cost_at frames actions n offset weight) (cost_at (drop (CENTRED * from) frames) (drop (action_size * from) actions) n offset weight) from (to - from)
      unfolding frame_hessian frame_gradient cost_at width_at
      sized_continues = record {
        hessian = λ k l. rw (shape_in k l, tall, entry_from_lem transforms from k, frame_from frames from k, action_from actions from k, lookup_from map from k);
        gradient = λ k l. rw (shape_in k l, tall, entry_from_lem transforms from k, frame_from frames from k, action_from actions from k, lookup_from map from k);
        cost = λ k l. rw (frame_from frames from k, action_from actions from k);
      }

      pub sized_continued : (s r : Float) (h h' g g' : List Float) → pairs.RunAdded order cols (onward (CENTRED * from) frames) (onward (action_size * from) actions) (onward place map) (onward (ROOM * from) transforms) n offset weight (to - from) s r h h' g g'
          → Continued order dof frames actions map shapes transforms n offset weight from to s r h h' g g'
      sized_continued s r h h' g g' added =
          continued_by order _ _ _ _ from (to - from) s r h h' g g' sized_continues
          (rw (rest (CENTRED * from) frames, rest (action_size * from) actions, rest place map, rest (ROOM * from) transforms, from-there) at added)
