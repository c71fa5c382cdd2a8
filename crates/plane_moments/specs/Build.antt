-- Building a frame factor: why the call is refused, and what it leaves where it is not. Definitions, and what an accepted call is known by; assumes nothing.
-- frames: the moments of each frame; fixed: nothing, or one set's moments; the outputs are centred sets.
use Rattle.std.specs.Prelude.{ℕ, ◌+◌, ◌*◌, ◌<◌, ◌≤◌, ◌≡◌, ◌⊎◌, Bool, true, false, not, ◌||◌, ◌&&◌, cond, List, [], ◌∷◌, ltb, eqb, length, get_or, Float}
use Rattle.std.proofs.Common.{mul_comm, eq-or-lt_of_le, arith, sym, ap, ◌∙◌, ⊎_elim, true≢false, lt-ltb, eq-eqb, ltb-false}
use Rattle.std.proofs.Math.Bool.{and-true}
use Rattle.std.specs.Float.{nan, inf, fin}
use Rattle.std.specs.Float.Ieee.{le, lt, eq, of_bits, of_fields, odd, up, down}
use Rattle.std.specs.Float.Ieee.Scale.{finite}
use Rattle.std.proofs.lemmas.Bool.{eqb-false, not-false}
use Rattle.refusals.specs.Refusal.{◌when◌, first_of, Answered, none, either_none}
use Rattle.sums.specs.Sum.{zero_f}
use Rattle.validate.specs.Finite.{all_finite, finite_positive}
use Rattle.validate.proofs.Laws.{finite_at}
use Rattle.normal_blocks.specs.Somewhere.{nowhere-at}
use Rattle.point_moments.specs.Moments.{MOMENTS}
use Rattle.point_moments.specs.Scatter.{CENTRED, has_mean}
use Rattle.derivative.specs.Action.{most_dof}
use Rattle.plane_fit.specs.Calls.{most_frames, bad_records, bad_count, whole_records, at_most_one, one_each}
use Rattle.plane_fit.specs.Records.{whole, record_at}
use Rattle.frame_sets.specs.Steps.{frame_mean}
use Rattle.frame_sets.specs.Sets.{set_count, set_at, count_at, empty_at, some_empty, too_few, not_finite, dropped, centred_frames, centred_fixed, points}

-- 3: the frames are whole sets, at most 256; the fixed set is nothing or one set; each output is one centred set for each set of its input. So the
-- output of a fixed set is CENTRED numbers, and empty where no set is handed in: a set and a centred set are as long only by accident.
unfoldable pub bad_shapes : List Float → List Float → List Float → List Float → Bool
bad_shapes frames fixed out_frames out_fixed =
    bad_records MOMENTS most_frames frames || (bad_records MOMENTS 1 fixed || (bad_count MOMENTS frames CENTRED out_frames || bad_count MOMENTS fixed CENTRED out_fixed))

-- "Building a frame factor tests 1 to 7"
unfoldable pub build_refusal : ℕ → List Float → List Float → Float → List Float → List Float → ℕ
build_refusal dof frames fixed sigma out_frames out_fixed =
    first_of
    (1 when ltb most_dof dof ∷
    2 when eqb (length frames) 0 ∷
    3 when bad_shapes frames fixed out_frames out_fixed ∷
    4 when some_empty frames ∷
    5 when too_few frames fixed ∷
    6 when not_finite frames fixed ∷
    7 when not (finite_positive sigma) ∷ [])

-- what the call may write
pub record Outputs : Type 0 where
  pub frames : List Float
  pub fixed : List Float
  pub points : Float
  pub dropped : ℕ

abbrev pub outputs : List Float → List Float → Float → ℕ → Outputs
outputs frames fixed points dropped = record { frames = frames; fixed = fixed; points = points; dropped = dropped }

-- 1 exactly if a fixed set was handed in and its count is at or below 0
abbrev pub flag : Bool → ℕ
flag b = cond b 1 0

-- what an accepted call leaves, where the slice meant for the fixed set held `old`
unfoldable pub built : List Float → List Float → List Float → Outputs
built frames fixed old = outputs (centred_frames frames) (centred_fixed fixed old) (points frames fixed) (flag (dropped fixed))

-- the call with the answer r: the four outputs before, and after
abbrev pub Builds : ℕ → List Float → List Float → Float → List Float → List Float → Float → ℕ → ℕ → List Float → List Float → Float → ℕ → Type 0
Builds dof frames fixed sigma out_frames out_fixed points dropped r outFrames' outFixed' points' dropped' =
    Answered (build_refusal dof frames fixed sigma out_frames out_fixed) r
    (outputs out_frames out_fixed points dropped) (outputs outFrames' outFixed' points' dropped')
    (built frames fixed out_fixed)

-- ---- what is known where no test applies

-- the lists have the lengths that the work asks for
pub record Whole (frames fixed out_frames out_fixed : List Float) : Type 0 where
  pub frames_whole : length frames ≡ MOMENTS * set_count frames
  pub fixed_set : (length fixed ≡ 0) ⊎ (length fixed ≡ MOMENTS)
  pub frames_out : length out_frames ≡ set_count frames * CENTRED
  pub fixed_out : length out_fixed ≡ set_count fixed * CENTRED

pub whole_sets : (frames fixed out_frames out_fixed : List Float) → bad_shapes frames fixed out_frames out_fixed ≡ false → Whole frames fixed out_frames out_fixed
unfolding bad_shapes
whole_sets frames fixed out_frames out_fixed h =
    let o = either_none (bad_records MOMENTS most_frames frames) _ h in
    let p = either_none (bad_records MOMENTS 1 fixed) _ o.1 in
    let q = either_none (bad_count MOMENTS frames CENTRED out_frames) _ p.1 in
    record {
      frames_whole = (whole_records MOMENTS most_frames frames o.0).0;
      fixed_set = at_most_one MOMENTS fixed p.0;
      frames_out = one_each MOMENTS frames CENTRED out_frames q.0 ∙ mul_comm CENTRED (set_count frames);
      fixed_out = one_each MOMENTS fixed CENTRED out_fixed q.1 ∙ mul_comm CENTRED (set_count fixed);
    }

strict : {a b : ℕ} → a ≤ b → (b ≡ a → ⊥) → a < b
strict {a} {b} h n = ⊎_elim (λ (e : a ≡ b). absurd (n (sym e))) (λ (l : a < b). l) (eq-or-lt_of_le h)

-- a finite number that is not at or below 0 is above it
above_zero : (x : Float) → finite x ≡ true → le x zero_f ≡ false → lt zero_f x ≡ true
unfolding lt eq le of_bits of_fields odd
above_zero nan f h = f
above_zero (inf s) f h = absurd (true≢false (sym f))
above_zero (fin false m e) f h =
    let p = either_none (ltb (m * up e * 1) (0 * down e)) _ h in
    let a : 0 * down e ≤ m * up e * 1 = ltb-false (m * up e * 1) (0 * down e) p.0 in
    let b : m * up e * 1 ≡ 0 * down e → ⊥ = eqb-false (m * up e * 1) (0 * down e) (sym (and-true _) ∙ p.1) in
    lt-ltb (0 * down e) (m * up e * 1) (strict a b)
above_zero (fin true m e) f h =
    let p = either_none (ltb 0 (m * up e * 1 + 0 * down e)) _ h in
    let a : m * up e * 1 + 0 * down e ≤ 0 = ltb-false 0 (m * up e * 1 + 0 * down e) p.0 in
    let b : eqb (m * up e * 1) (0 * down e) ≡ true = eq-eqb (m * up e * 1) (0 * down e) (omega (arith, a)) in
    let z : eqb (m * up e * 1) 0 ≡ true = eq-eqb (m * up e * 1) 0 (omega (arith, a)) in
    let c : eqb (m * up e * 1) (0 * down e) && eqb (m * up e * 1) 0 ≡ true = rw (b, z) in
    absurd (true≢false (sym c ∙ p.1))

module _ (dof : ℕ) (frames fixed : List Float) (sigma : Float) (out_frames out_fixed : List Float) (accepted : build_refusal dof frames fixed sigma out_frames out_fixed ≡ 0) where
  -- the tests 4 and 6 do not apply
  passed : (some_empty frames ≡ false) × (not_finite frames fixed ≡ false)
  unfolding build_refusal
  passed =
      let one = none (ltb most_dof dof) 0 _ accepted in
      let two = none (eqb (length frames) 0) 1 _ one.1 in
      let three = none (bad_shapes frames fixed out_frames out_fixed) 2 _ two.1 in
      let four = none (some_empty frames) 3 _ three.1 in
      let five = none (too_few frames fixed) 4 _ four.1 in
      let six = none (not_finite frames fixed) 5 _ five.1 in
      (four.0, six.0)

  pub built_sets : some_empty frames ≡ false
  built_sets = passed.0

  -- an accepted build has only finite moments, the fixed set's too where it is dropped
  pub built_finite : ((k : ℕ) → k < length frames → finite (get_or frames k nan) ≡ true) × ((k : ℕ) → k < length fixed → finite (get_or fixed k nan) ≡ true)
  unfolding not_finite
  built_finite =
      let p = either_none (not (all_finite frames)) (not (all_finite fixed)) passed.1 in
      (finite_at frames (not-false _ p.0), finite_at fixed (not-false _ p.1))

  -- and none of its frames is without a mean, so that the Rust's Degenerate, which has no number here, cannot arise
  pub built-mean : (k : ℕ) → k < set_count frames → has_mean (set_at frames k) ≡ true
  built-mean = frame_mean frames built_sets

  -- each count is above 0
  pub built_count : (k : ℕ) → k < set_count frames → lt zero_f (count_at frames k) ≡ true
  unfolding some_empty empty_at count_at
  built_count k h =
      let w = whole MOMENTS frames k (omega arith) h in
      let e = record_at MOMENTS frames k w 0 (omega arith) in
      let f = built_finite.0 (MOMENTS * k + 0) (omega arith) in
      above_zero (count_at frames k) (ap finite e ∙ f) (nowhere-at (empty_at frames) (set_count frames) passed.0 k h)
