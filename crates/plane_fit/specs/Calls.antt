-- Why a call on frames is refused, as far as frames, fixed set and actions go; and the call that asks for the fit's mean and scatter. Assumes nothing.
use Rattle.std.specs.Prelude.{◌≡◌, refl, Bool, false, not, ◌||◌, ◌⊎◌, List, [], ◌∷◌, ℕ, zero, suc, ◌*◌, ◌/◌, ◌%◌, ◌≤◌, ltb, eqb, length, Float}
use Rattle.std.proofs.Common.{◌∙◌, inl, inr, div-add-mod', mul_comm, mul-zero, mul-one, arith, ltb-false, eqb-true}
use Rattle.std.proofs.lemmas.Bool.{not-false}
use Rattle.refusals.specs.Refusal.{◌when◌, first_of, either_none}
use Rattle.derivative.specs.Action.{action_size, most_dof}
use Rattle.point_moments.specs.Scatter.{CENTRED}
use Rattle.plane_fit.specs.Fit.{frame_count, Shaped}

-- the most frames of a plane
abbrev pub most_frames : ℕ
most_frames = 256

-- 3: a list is not whole records of so many numbers, or has more than so many
unfoldable pub bad_records : ℕ → ℕ → List Float → Bool
bad_records size most list = not (eqb (length list % size) 0) || ltb most (length list / size)

abbrev pub bad_frames : List Float → Bool
bad_frames frames = bad_records CENTRED most_frames frames

-- 3: a fixed slice is 0 or CENTRED numbers, which is at most one record (`fixed_good` and `whole_fixed`)
abbrev pub bad_fixed : List Float → Bool
bad_fixed fixed = bad_records CENTRED 1 fixed

-- another list is not so many numbers for each record of a list
unfoldable pub bad_count : ℕ → List Float → ℕ → List Float → Bool
bad_count size list other others = not (eqb (length others) (other * (length list / size)))

-- 8: the actions are not 120 numbers for each frame
abbrev pub bad_actions : List Float → List Float → Bool
bad_actions frames actions = bad_count CENTRED frames action_size actions

-- asking for the fit's mean and scatter tests 1, 2, 3, 8
unfoldable pub fit_refusal : ℕ → List Float → List Float → List Float → List Float → ℕ
fit_refusal dof frames fixed actions out =
    first_of
    (1 when ltb most_dof dof ∷
    2 when eqb (length frames) 0 ∷
    3 when (bad_frames frames || (bad_fixed fixed || not (eqb (length out) 12))) ∷
    8 when bad_actions frames actions ∷ [])

-- ---- what a call may rely on where no test applies

pub whole_records : (size most : ℕ) (list : List Float) → bad_records size most list ≡ false → (length list ≡ size * (length list / size)) × (length list / size ≤ most)
unfolding bad_records
whole_records size most list h =
    let p = either_none _ _ h in
    let e : length list % size ≡ 0 = eqb-true (length list % size) 0 (not-false _ p.0) in
    (omega (arith, div-add-mod' (length list) size, mul_comm size (length list / size)), ltb-false most (length list / size) p.1)

-- at most one record: nothing, or the record
pub at_most_one : (size : ℕ) (list : List Float) → bad_records size 1 list ≡ false → (length list ≡ 0) ⊎ (length list ≡ size)
at_most_one size list h = go (length list / size) refl (whole_records size 1 list h).1
  where
    go : (q : ℕ) → length list / size ≡ q → length list / size ≤ 1 → (length list ≡ 0) ⊎ (length list ≡ size)
    go zero e l = inl ((whole_records size 1 list h).0 ∙ rw (e, mul-zero))
    go (suc zero) e l = inr ((whole_records size 1 list h).0 ∙ rw (e, mul-one))
    go (suc (suc q)) e l = absurd (omega arith)

pub whole_frames : (frames : List Float) → bad_frames frames ≡ false → (length frames ≡ CENTRED * frame_count frames) × (frame_count frames ≤ most_frames)
whole_frames frames h = whole_records CENTRED most_frames frames h

pub whole_fixed : (fixed : List Float) → bad_fixed fixed ≡ false → (length fixed ≡ 0) ⊎ (length fixed ≡ CENTRED)
whole_fixed fixed h = at_most_one CENTRED fixed h

pub one_each : (size : ℕ) (list : List Float) (other : ℕ) (others : List Float) → bad_count size list other others ≡ false → length others ≡ other * (length list / size)
unfolding bad_count
one_each size list other others h = eqb-true (length others) (other * (length list / size)) (not-false _ h)

pub shaped : (frames fixed actions : List Float) → bad_frames frames ≡ false → bad_fixed fixed ≡ false → bad_actions frames actions ≡ false → Shaped frames fixed actions
shaped frames fixed actions h k l = record {
  count = frame_count frames;
  frames_whole = (whole_frames frames h).0;
  actions_whole = one_each CENTRED frames action_size actions l;
  fixed_whole = whole_fixed fixed k;
}
