-- All frames of a call under a plane: what each of them adds where, and what they cost with the fixed set. Assumes nothing.
use Prim.Native.Nat.{ℕ, zero, suc, ◌+◌, ◌*◌, ◌/◌, ◌%◌, ◌≤◌, ◌<◌}
use Rattle.std.proofs.Common.{add-one, sym, ◌∙◌}
use Rattle.std.specs.Prelude.{◌≡◌, false, length, Option, Some, None}
use Rattle.std.proofs.Math.Path.{refl, ap, ap₂}
use native.Mathlib.Omega.{arith}
use mathlib.Core.List.{List, [], ◌∷◌, ◌++◌}
use Rattle.std.proofs.Math.ListN.{get_or-append}
use Rattle.std.proofs.Math.Seq.{get_or-append-add}
use Rattle.std.specs.Float.Ieee.{Float, nan}
use Rattle.sums.specs.Sum.{◌⊕◌, zero_f, sum_from, sum_from_zero, tab}
use Rattle.sums.specs.Laws.{get_or-tab, sum_from-same, sum_from_parts}
use Rattle.lists.specs.Part.{◌!◌}
use Rattle.terms.specs.Terms.{add_all, upto}
use Rattle.terms.proofs.Laws.{upto-none, upto-joined}
use Rattle.normal_blocks.specs.Map.{lookup, exceeds, some_exceeds}
use Rattle.normal_blocks.proofs.Laws.{lookup-past, fits}
use Rattle.normal_blocks.specs.TargetLaws.{hessian_mapped, gradient_mapped, hessian_unmapped, gradient_unmapped, hessian_same, gradient_same}
use Rattle.normal_blocks.specs.Target.{hessian_at, gradient_at}
use Rattle.call_lists.specs.Frames.{Frames, frame_hessian, frame_gradient}
use Rattle.call_lists.specs.FrameLaws.{hessian_more, gradient_more}
use Rattle.derivative.specs.Action.{action_size}
use Rattle.point_moments.specs.declared.scatter.Centred.{Centred}
use Rattle.plane_fit.specs.Fit.{frame_count, frame_at, action_at, and_fixed}
use Rattle.frame_segment.specs.Frame.{block_entry, pulled_entry}
use Rattle.frame_segment.specs.Steps.{Added, Held}
use Rattle.frame_parts.specs.Frame.{vector_entry}
use Rattle.frame_blocks.specs.Pulls.{pull_at, pull_in, Pulled}
use Rattle.frame_parts.specs.Parts.{BATCH, PART, part_of, part_at, block_in, vector_in, cost_in}
use Rattle.batches.specs.Beside.{Beside}
use Rattle.frame_cost.specs.Cost.{frame_cost, fixed_cost, cost_at, frames_cost}
use Rattle.frame_cost.specs.declared.Pull.{Pull}

-- each frame goes where the map says, `dof` rows wide, with its block and its vector under the plane
abbrev pub frames_under : ℕ → List Float → List Float → List ℕ → List Float → Float → Float → Frames
frames_under dof frames actions map n offset weight = record {
  layout = record { count = frame_count frames; place = lookup map; width = λ k. dof };
  block = λ k. block_entry (action_at actions k) (frame_at frames k) n weight;
  vector = λ k. vector_entry (action_at actions k) (frame_at frames k) n offset weight;
}

-- what the tests of a call leave to the work
pub record Ready (cells order dof : ℕ) (frames actions : List Float) (map : List ℕ) : Type 0 where
  pub narrow : dof ≤ 9
  pub square : cells ≡ order * order
  pub acted : action_size * frame_count frames ≤ length actions
  pub fits : some_exceeds order (λ k. dof) (lookup map) (frame_count frames) ≡ false

-- the same of the first `count` frames of the lists
pub record RunReady (cells order dof : ℕ) (frames actions : List Float) (map : List ℕ) (count : ℕ) : Type 0 where
  pub narrow : dof ≤ 9
  pub square : cells ≡ order * order
  pub held : count ≤ frame_count frames
  pub acted : action_size * count ≤ length actions
  pub fits : (k : ℕ) → k < count → exceeds order dof (lookup map k) ≡ false

-- one frame with a pull, at the place p: what it adds there
pub record FrameAdded (x : List Float) (f : Centred) (n : List Float) (s : Pull) (weight : Float) (order dof : ℕ) (p : Option ℕ) (h h' g g' : List Float) : Type 0 where
  pub hessian : h' ≡ add_all h (hessian_at order dof p (block_entry x f n weight))
  pub gradient : g' ≡ add_all g (gradient_at dof p (pulled_entry x f n s.turn s.shift weight))

-- the k-th part of a batch, at the place p
pub record PartAdded (order : ℕ) (p : Option ℕ) (cells : List Float) (k : ℕ) (h h' g g' : List Float) : Type 0 where
  pub hessian : h' ≡ add_all h (hessian_at order 3 p (block_in cells k))
  pub gradient : g' ≡ add_all g (gradient_at 3 p (vector_in cells k))

-- `size` frames from frame `from` on, with the pulls that stand in the cells
abbrev pub frames_in : ℕ → List Float → List Float → List ℕ → List Float → Float → List Float → ℕ → ℕ → Frames
frames_in dof frames actions map n weight cells from size = record {
  layout = record { count = size; place = λ k. lookup map (from + k); width = λ k. dof };
  block = λ k. block_entry (action_at actions (from + k)) (frame_at frames (from + k)) n weight;
  vector = λ k. pulled_entry (action_at actions (from + k)) (frame_at frames (from + k)) n (pull_in cells k).turn (pull_in cells k).shift weight;
}

-- the same by the parts that stand in the cells
abbrev pub parts_in : List ℕ → List Float → ℕ → ℕ → Frames
parts_in map cells from size = record {
  layout = record { count = size; place = λ k. lookup map (from + k); width = λ k. 3 };
  block = block_in cells;
  vector = vector_in cells;
}

-- a loop over frames, after k of them: what they add is added one after the other, and what they cost to a number that was there
pub record FirstAdded (order : ℕ) (f : Frames) (costs : ℕ → Float) (k : ℕ) (s r : Float) (h h' g g' : List Float) : Type 0 where
  pub cost : r ≡ sum_from s k costs
  pub hessian : h' ≡ add_all h (upto k (frame_hessian order f))
  pub gradient : g' ≡ add_all g (upto k (frame_gradient f))

-- the first `count` frames of the lists, their costs added to the number `start`
abbrev pub RunAdded : ℕ → ℕ → List Float → List Float → List ℕ → List Float → Float → Float → ℕ → Float → Float → List Float → List Float → List Float → List Float → Type 0
RunAdded order dof frames actions map n offset weight count start r h h' g g' =
    FirstAdded order (frames_under dof frames actions map n offset weight) (cost_at frames actions n offset weight) count start r h h' g g'

-- all frames of a batch, by their pulls and by their parts
abbrev pub BatchAdded : ℕ → ℕ → List Float → List Float → List ℕ → List Float → Float → List Float → ℕ → ℕ → Float → Float → List Float → List Float → List Float → List Float → Type 0
BatchAdded order dof frames actions map n weight cells from size s r h h' g g' =
    let batch = frames_in dof frames actions map n weight cells from size in
    FirstAdded order batch (λ k. (pull_in cells k).cost) batch.layout.count s r h h' g g'

abbrev pub PartsAdded : ℕ → List ℕ → List Float → ℕ → ℕ → Float → Float → List Float → List Float → List Float → List Float → Type 0
PartsAdded order map cells from size s r h h' g g' =
    let batch = parts_in map cells from size in
    FirstAdded order batch (cost_in cells) batch.layout.count s r h h' g g'

-- what the frames of a batch add and cost is what those of a call from frame `from` on do
pub record Continues (order : ℕ) (call batch : Frames) (costs costs' : ℕ → Float) (from size : ℕ) : Type 0 where
  pub hessian : (k : ℕ) → k < size → frame_hessian order batch k ≡ frame_hessian order call (from + k)
  pub gradient : (k : ℕ) → k < size → frame_gradient batch k ≡ frame_gradient call (from + k)
  pub cost : (k : ℕ) → k < size → costs' k ≡ costs (from + k)

-- all of them, f being a call's frames as they are added, and the fixed set
pub record FramesAdded (order : ℕ) (f : Frames) (frames fixed actions n : List Float) (offset weight r : Float) (h h' g g' : List Float) : Type 0 where
  pub cost : r ≡ frames_cost frames fixed actions n offset weight
  pub hessian : h' ≡ add_all h (upto (frame_count frames) (frame_hessian order f))
  pub gradient : g' ≡ add_all g (upto (frame_count frames) (frame_gradient f))

abbrev pub AllAdded : ℕ → ℕ → List Float → List Float → List Float → List ℕ → List Float → Float → Float → Float → List Float → List Float → List Float → List Float → Type 0
AllAdded order dof frames fixed actions map n offset weight r h h' g g' =
    FramesAdded order (frames_under dof frames actions map n offset weight) frames fixed actions n offset weight r h h' g g'

-- ---- laws

-- a place that is not an offset is none
pub nowhere : (p : Option ℕ) → ((at : ℕ) → p ≡ Some at → ⊥) → p ≡ None
nowhere (Some at) h = absurd (h at refl)
nowhere None h = refl

-- one frame at an offset, and one that goes nowhere
module _ (x : List Float) (f : Centred) (n : List Float) (s : Pull) (weight : Float) (order dof : ℕ) (p : Option ℕ) where
  pub frame_mapped : (at : ℕ) (h h' g g' : List Float) → p ≡ Some at → Added order at dof (block_entry x f n weight) (pulled_entry x f n s.turn s.shift weight) h h' g g'
      → FrameAdded x f n s weight order dof p h h' g g'
  frame_mapped at h h' g g' mapped a = record {
    hessian = hessian_mapped dof p at mapped order (block_entry x f n weight) h h' a.hessian;
    gradient = gradient_mapped dof p at mapped (pulled_entry x f n s.turn s.shift weight) g g' a.gradient;
  }

  pub frame_unmapped : (h g : List Float) → p ≡ None → FrameAdded x f n s weight order dof p h h g g
  frame_unmapped h g unmapped = record {
    hessian = hessian_unmapped dof p unmapped order (block_entry x f n weight) h;
    gradient = gradient_unmapped dof p unmapped (pulled_entry x f n s.turn s.shift weight) g;
  }

-- a loop over frames: before the first, one more, and a batch after those before it
module _ (order : ℕ) (f : Frames) (costs : ℕ → Float) where
  pub first-none : (s : Float) (h g : List Float) → FirstAdded order f costs 0 s s h h g g
  first-none s h g = record { cost = refl; hessian = upto-none h _; gradient = upto-none g _ }

  pub first_more : (k : ℕ) (p : Option ℕ) (e : ℕ → ℕ → Float) (v : ℕ → Float) (x s r : Float) (h h' h'' g g' g'' : List Float) → p ≡ f.layout.place k
      → ((i j : ℕ) → i < f.layout.width k → j < f.layout.width k → e i j ≡ f.block k i j) → ((i : ℕ) → i < f.layout.width k → v i ≡ f.vector k i) → x ≡ costs k
      → h'' ≡ add_all h' (hessian_at order (f.layout.width k) p e) → g'' ≡ add_all g' (gradient_at (f.layout.width k) p v)
      → FirstAdded order f costs k s r h h' g g' → FirstAdded order f costs (k + 1) s (r ⊕ x) h h'' g g''
  first_more k p e v x s r h h' h'' g g' g'' at block vector own added added' before = record {
    cost = rw (add-one k) (ap₂ ◌⊕◌ before.cost own);
    hessian = hessian_more f k p at order h h' h'' e block before.hessian added;
    gradient = gradient_more f k p at g g' g'' v vector before.gradient added';
  }

  pub first-joined : (batch : Frames) (costs' : ℕ → Float) (from size : ℕ) (s₀ s r : Float) (h₀ h h' g₀ g g' : List Float) → Continues order f batch costs costs' from size
      → FirstAdded order batch costs' size s r h h' g g' → FirstAdded order f costs from s₀ s h₀ h g₀ g → FirstAdded order f costs (from + size) s₀ r h₀ h' g₀ g'
  first-joined batch costs' from size s₀ s r h₀ h h' g₀ g g' same added before = record {
    cost = added.cost ∙ sum_from-same s size _ _ same.cost ∙ rw before.cost (sym (sum_from_parts s₀ from size costs));
    hessian = added.hessian ∙ upto-joined h₀ h _ _ from size before.hessian same.hessian;
    gradient = added.gradient ∙ upto-joined g₀ g _ _ from size before.gradient same.gradient;
  }

-- all frames of a call, and the fixed set
pub all_added : (order : ℕ) (f : Frames) (frames actions n : List Float) (offset weight : Float) (fixed : List Float) (count : ℕ) (s r : Float) (h h' g g' : List Float) → count ≡ frame_count frames
    → r ≡ and_fixed fixed (λ f. fixed_cost f n offset weight) s → FirstAdded order f (cost_at frames actions n offset weight) count zero_f s h h' g g'
    → FramesAdded order f frames fixed actions n offset weight r h h' g g'
unfolding frames_cost
all_added order f frames actions n offset weight fixed count s r h h' g g' e q a = record {
  cost = q ∙ ap (and_fixed fixed (λ f. fixed_cost f n offset weight)) (rw e at a.cost);
  hessian = rw e at a.hessian;
  gradient = rw e at a.gradient;
}

module _ (order dof : ℕ) (frames actions : List Float) (map : List ℕ) where
  -- a call that is ready is so for all its frames
  pub ready_run : (cells count : ℕ) → count ≡ frame_count frames → Ready cells order dof frames actions map → RunReady cells order dof frames actions map count
  ready_run cells count e ready = rw e (record {
    narrow = ready.narrow;
    square = ready.square;
    held = omega arith;
    acted = ready.acted;
    fits = fits order (λ k. dof) (lookup map) (frame_count frames) ready.fits;
  })

  -- what a run that is ready has at each frame, the two slices being as long as they were
  module _ (cells count : ℕ) (ready : RunReady cells order dof frames actions map count) where
    pub run_fits : (rows k : ℕ) (p : Option ℕ) → rows ≡ order → p ≡ lookup map k → k < count → exceeds rows dof p ≡ false
    run_fits rows k p e at l = rw (e, at) (ready.fits k l)

    pub run_held : (k : ℕ) → k < count → Held frames actions k
    run_held k l = record { frame = omega (arith, ready.held); action = omega (arith, ready.acted) }

    pub run_square : (h g : ℕ) → h ≡ cells → g ≡ order → h ≡ g * g
    run_square h g e q = rw (e, q) ready.square

    -- fewer frames are ready too
    pub run_upto : (h g to : ℕ) → h ≡ cells → g ≡ order → to ≤ count → RunReady h g dof frames actions map to
    run_upto h g to e q l = record {
      narrow = ready.narrow;
      square = run_square h g e q;
      held = omega (arith, ready.held);
      acted = omega (arith, ready.acted);
      fits = λ k b. run_fits g k (lookup map k) q refl (omega arith);
    }

  module _ (n : List Float) (offset weight : Float) where
    -- without a map no frame goes anywhere
    pub run_unmapped : (k : ℕ) (h g : List Float) → length map ≡ 0 → RunAdded order dof frames actions map n offset weight k zero_f (sum_from_zero k (cost_at frames actions n offset weight)) h h g g
    run_unmapped zero h g e = first-none order _ _ zero_f h g
    run_unmapped (suc k) h g e =
        let all = frames_under dof frames actions map n offset weight in
        let past : lookup map k ≡ None = sym (lookup-past map k (omega arith)) in
        rw (add-one k) at (first_more order all _ k (lookup map k) (all.block k) (all.vector k) _ zero_f _ h h h g g g refl (λ i j li lj. refl) (λ i li. refl) refl
        (hessian_unmapped dof (lookup map k) past order (all.block k) h) (gradient_unmapped dof (lookup map k) past (all.vector k) g) (run_unmapped k h g e))

    pub all_alone : (fixed : List Float) (count : ℕ) (s r : Float) (h g : List Float) → count ≡ frame_count frames → length map ≡ 0
        → s ≡ sum_from_zero count (cost_at frames actions n offset weight) → r ≡ and_fixed fixed (λ f. fixed_cost f n offset weight) s
        → AllAdded order dof frames fixed actions map n offset weight r h h g g
    all_alone fixed count s r h g e none q p = all_added order _ frames actions n offset weight fixed count s r h h g g e p (rw q (run_unmapped count h g none))

  -- a batch by its pulls: one frame more, and the call's frames with it
  module _ (n : List Float) (weight : Float) (cells : List Float) (from size : ℕ) where
    pub batch_more : (k rows : ℕ) (p : Option ℕ) (q : Pull) (s r : Float) (h h' h'' g g' g'' : List Float) → rows ≡ order → p ≡ lookup map (from + k) → q ≡ pull_in cells k
        → FrameAdded (action_at actions (from + k)) (frame_at frames (from + k)) n q weight rows dof p h' h'' g' g''
        → FirstAdded order (frames_in dof frames actions map n weight cells from size) (λ k. (pull_in cells k).cost) k s r h h' g g'
        → FirstAdded order (frames_in dof frames actions map n weight cells from size) (λ k. (pull_in cells k).cost) (k + 1) s (r ⊕ q.cost) h h'' g g''
    batch_more k rows p q s r h h' h'' g g' g'' el ep eq a before =
        let batch = frames_in dof frames actions map n weight cells from size in
        first_more order batch _ k p (batch.block k) (batch.vector k) q.cost s r h h' h'' g g' g'' ep (λ i j li lj. refl) (λ i li. refl) (ap (λ (o : Pull). o.cost) eq)
        (rw el at a.hessian) (rw eq at a.gradient) before

    batch_continues : (offset : Float) → Pulled frames actions n offset weight from size cells
        → Continues order (frames_under dof frames actions map n offset weight) (frames_in dof frames actions map n weight cells from size) (cost_at frames actions n offset weight) (λ k. (pull_in cells k).cost) from size
    unfolding frame_hessian frame_gradient cost_at frame_cost pull_at vector_entry
    batch_continues offset pulled = record {
      hessian = λ k l. refl;
      gradient = λ k l. ap (λ (q : Pull). gradient_at dof (lookup map (from + k)) (pulled_entry (action_at actions (from + k)) (frame_at frames (from + k)) n q.turn q.shift weight)) (pulled.pulls k l);
      cost = λ k l. ap (λ (q : Pull). q.cost) (pulled.pulls k l);
    }

    pub batch_added : (offset : Float) (rows : ℕ) (s₀ s r : Float) (h₀ h h' g₀ g g' : List Float) → rows ≡ order → Pulled frames actions n offset weight from size cells
        → BatchAdded rows dof frames actions map n weight cells from size s r h h' g g' → RunAdded order dof frames actions map n offset weight from s₀ s h₀ h g₀ g
        → RunAdded order dof frames actions map n offset weight (from + size) s₀ r h₀ h' g₀ g'
    batch_added offset rows s₀ s r h₀ h h' g₀ g g' e pulled added before =
        first-joined order _ _ _ _ from size s₀ s r h₀ h h' g₀ g g' (batch_continues offset pulled) (rw e at added) before

-- the numbers of a part are its frame's block, vector and cost
module _ (x : List Float) (f : Centred) (n : List Float) (offset weight : Float) where
  part-block : (i j : ℕ) → i < 3 → j < 3 → part_of x f n offset weight ! (3 * j + i) ≡ block_entry x f n weight i j
  unfolding part_of
  part-block i j li lj =
      let entries : ℕ → Float = λ e. block_entry x f n weight (e % 3) (e / 3) in
      let rest = tab 3 (vector_entry x f n offset weight) ++ (frame_cost x f n offset weight ∷ []) in
      let row : (3 * j + i) % 3 ≡ i = omega arith in
      let column : (3 * j + i) / 3 ≡ j = omega arith in
      get_or-append (tab 9 entries) rest nan (3 * j + i) (omega arith) ∙ get_or-tab 9 entries (3 * j + i) (omega arith) ∙ ap₂ (block_entry x f n weight) row column

  part_vector : (i : ℕ) → i < 3 → part_of x f n offset weight ! (9 + i) ≡ vector_entry x f n offset weight i
  unfolding part_of
  part_vector i li =
      let entries = vector_entry x f n offset weight in
      let last = frame_cost x f n offset weight ∷ [] in
      get_or-append-add (tab 9 (λ e. block_entry x f n weight (e % 3) (e / 3))) (tab 3 entries ++ last) i nan ∙ get_or-append (tab 3 entries) last nan i li ∙ get_or-tab 3 entries i li

  part_cost : part_of x f n offset weight ! 12 ≡ frame_cost x f n offset weight
  unfolding part_of
  part_cost = refl

module _ (order : ℕ) (p : Option ℕ) (cells : List Float) (k : ℕ) where
  -- a part at an offset, and one that goes nowhere
  pub part_mapped : (at : ℕ) (h h' g g' : List Float) → p ≡ Some at → Added order at 3 (block_in cells k) (vector_in cells k) h h' g g' → PartAdded order p cells k h h' g g'
  part_mapped at h h' g g' mapped a = record {
    hessian = hessian_mapped 3 p at mapped order (block_in cells k) h h' a.hessian;
    gradient = gradient_mapped 3 p at mapped (vector_in cells k) g g' a.gradient;
  }

  pub part_unmapped : (h g : List Float) → p ≡ None → PartAdded order p cells k h h g g
  part_unmapped h g unmapped = record {
    hessian = hessian_unmapped 3 p unmapped order (block_in cells k) h;
    gradient = gradient_unmapped 3 p unmapped (vector_in cells k) g;
  }

-- a batch by its parts: one frame more, and the call's frames with it
module _ (order : ℕ) (map : List ℕ) (cells : List Float) (from size : ℕ) where
  pub parts_more : (k : ℕ) (p : Option ℕ) (s r v : Float) (h h' h'' g g' g'' : List Float) → p ≡ lookup map (from + k) → v ≡ cost_in cells k
      → PartAdded order p cells k h' h'' g' g'' → FirstAdded order (parts_in map cells from size) (cost_in cells) k s r h h' g g'
      → FirstAdded order (parts_in map cells from size) (cost_in cells) (k + 1) s (r ⊕ v) h h'' g g''
  parts_more k p s r v h h' h'' g g' g'' ep ev a before =
      first_more order (parts_in map cells from size) _ k p (block_in cells k) (vector_in cells k) v s r h h' h'' g g' g'' ep (λ i j li lj. refl) (λ i li. refl) ev a.hessian a.gradient before

  parts_continue : (frames actions n : List Float) (offset weight : Float) → Beside BATCH PART (λ k. part_at frames actions n offset weight (from + k)) size cells
      → Continues order (frames_under 3 frames actions map n offset weight) (parts_in map cells from size) (cost_at frames actions n offset weight) (cost_in cells) from size
  unfolding frame_hessian frame_gradient cost_at
  parts_continue frames actions n offset weight beside = record {
    hessian = λ k l. hessian_same order 3 (lookup map (from + k)) (block_in cells k) _ (λ i j li lj. ap (λ l. l ! (3 * j + i)) (beside.each k l) ∙ part-block (action_at actions (from + k)) (frame_at frames (from + k)) n offset weight i j li lj);
    gradient = λ k l. gradient_same 3 (lookup map (from + k)) (vector_in cells k) _ (λ i li. ap (λ l. l ! (9 + i)) (beside.each k l) ∙ part_vector (action_at actions (from + k)) (frame_at frames (from + k)) n offset weight i li);
    cost = λ k l. ap (λ l. l ! 12) (beside.each k l) ∙ part_cost (action_at actions (from + k)) (frame_at frames (from + k)) n offset weight;
  }

  pub parts_added : (frames actions n : List Float) (offset weight : Float) (rows : ℕ) (s₀ s r : Float) (h₀ h h' g₀ g g' : List Float) → rows ≡ order
      → Beside BATCH PART (λ k. part_at frames actions n offset weight (from + k)) size cells → PartsAdded rows map cells from size s r h h' g g'
      → RunAdded order 3 frames actions map n offset weight from s₀ s h₀ h g₀ g → RunAdded order 3 frames actions map n offset weight (from + size) s₀ r h₀ h' g₀ g'
  parts_added frames actions n offset weight rows s₀ s r h₀ h h' g₀ g g' e beside added before =
      first-joined order _ _ _ _ from size s₀ s r h₀ h h' g₀ g g' (parts_continue frames actions n offset weight beside) (rw e at added) before
