-- The survey rule's tests: 13 exactly where it applies, and test 5 by the sets that are kept beside the build's. Assumes nothing.
use Prim.Native.Nat.{ℕ, zero, suc, ◌≤◌}
use mathlib.Core.Path.{◌≡◌, refl, sym, ap, ◌∙◌}
use mathlib.Core.Bool.{Bool, true, false, not, cond, true≢false}
use mathlib.Core.List.{List, [], ◌∷◌}
use native.Mathlib.Omega.{arith}
use lib.Dec.{T}
use lib.Ieee.{Float, binary64, fits, lt, le, of_bits}
use lib.Ieee.Fits.{add-fits}
use Rattle.refusals.specs.Refusal.{Reason, ◌when◌, first_of, kept}
use Rattle.refusals.proofs.Laws.{first_of_both, first-refused, first-at-most}
use Rattle.sums.specs.Sum.{◌⊕◌, sum_from_zero}
use Rattle.sums.proofs.Zeros.{Zero, is_zero, Alike, zero_alike}
use Rattle.validate.specs.Finite.{finite_positive}
use Rattle.frame_sets.specs.Sets.{set_count, count_at, count_sum, fixed_count, dropped, some_empty, too_few, not_finite, three}
use Rattle.plane_moments.specs.Build.{build_refusal}
use Rattle.plane_moments.specs.Steps.{shape_reasons, shape_refusal, set_reasons, set_refusal}
use Rattle.plane_moments.proofs.Laws.{in_two_parts}
use Rattle.strict_build.specs.Strict.{negative, kept_total, too_few_kept, strict_refusal}

-- ---- a fixed set that is dropped and not negative
-- its count is a zero
pub dropped-zero : (fixed : List Float) → negative fixed ≡ false → dropped fixed ≡ true → Zero (fixed_count fixed)
unfolding negative fixed_count dropped
dropped-zero [] n h = absurd (true≢false (sym h))
dropped-zero (x ∷ l) n h = is_zero _ h n

-- what 13 refuses is a set that the build, where it accepts, drops
pub negative-dropped : (fixed : List Float) → negative fixed ≡ true → dropped fixed ≡ true
unfolding negative fixed_count dropped le
negative-dropped [] h = unfold lt of_bits in absurd (true≢false (sym h))
negative-dropped (x ∷ l) h = rw h

-- ---- test 5
-- a sum of counts is a number that the format holds
pub sum_fits : (frames : List Float) → T (fits binary64 (count_sum frames))
unfolding count_sum
sum_fits frames = go (set_count frames)
  where
    go : (n : ℕ) → T (fits binary64 (sum_from_zero n (count_at frames)))
    go zero = unfold fits of_bits in tt
    go (suc n) = add-fits binary64 (sum_from_zero n (count_at frames)) (count_at frames n)

-- a zero added to it is told by no comparison
pub count_alike : (frames : List Float) (x : Float) → Zero x → Alike (count_sum frames ⊕ x) (count_sum frames)
count_alike frames x z = rw z.is (zero_alike binary64 (count_sum frames) z.sign z.exponent (sum_fits frames))

-- a set that is dropped adds nothing to the total, and one that is kept its count
pub dropped_adds : (frames fixed : List Float) → dropped fixed ≡ true → kept_total frames fixed ≡ count_sum frames
unfolding kept_total
dropped_adds frames fixed d = rw d

pub kept_adds : (frames fixed : List Float) → dropped fixed ≡ false → kept_total frames fixed ≡ count_sum frames ⊕ fixed_count fixed
unfolding kept_total
kept_adds frames fixed d = rw d

-- where 13 does not apply, test 5 by this total is the build's test 5
pub same_test : (frames fixed : List Float) → negative fixed ≡ false → too_few_kept frames fixed ≡ too_few frames fixed
unfolding too_few_kept too_few
same_test frames fixed n = go (dropped fixed) refl
  where
    go : (b : Bool) → dropped fixed ≡ b → lt (kept_total frames fixed) three ≡ lt (count_sum frames ⊕ fixed_count fixed) three
    go true d = rw (dropped_adds frames fixed d) (sym ((count_alike frames (fixed_count fixed) (dropped-zero fixed n d)).lt-left three))
    go false d = rw (kept_adds frames fixed d)

-- ---- the answer, in its parts: 1, 2 and 3, then 13, then the build's 4 to 7
module _ (dof : ℕ) (frames fixed : List Float) (sigma : Float) (out_frames out_fixed : List Float) where
  abbrev shape : ℕ
  shape = shape_refusal dof frames fixed out_frames out_fixed

  -- what comes after 3, with b for 13
  abbrev later : Bool → List Reason
  later b = 13 when b ∷ 4 when some_empty frames ∷ 5 when too_few_kept frames fixed ∷ 6 when not_finite frames fixed ∷ 7 when not (finite_positive sigma) ∷ []

  pub strict_parts : strict_refusal dof frames fixed sigma out_frames out_fixed ≡ kept shape shape (cond (negative fixed) 13 (set_refusal frames fixed sigma))
  unfolding strict_refusal shape_refusal set_refusal
  strict_parts = first_of_both (shape_reasons dof frames fixed out_frames out_fixed) (later (negative fixed)) tt ∙ ap (kept shape shape) (go (negative fixed) refl)
    where
      go : (b : Bool) → negative fixed ≡ b → first_of (later b) ≡ cond b 13 (set_refusal frames fixed sigma)
      go true n = refl
      go false n = rw (same_test frames fixed n)

  -- a reason that comes before 13 is the answer
  pub shape-refused : (k : ℕ) → k ≡ shape → (k ≡ 0 → ⊥) → strict_refusal dof frames fixed sigma out_frames out_fixed ≡ k
  shape-refused k e n = strict_parts ∙ first-refused shape k _ e n

  module _ (passed : shape ≡ 0) where
    pub thirteen : negative fixed ≡ true → strict_refusal dof frames fixed sigma out_frames out_fixed ≡ 13
    thirteen n = strict_parts ∙ rw (passed, n)

    -- and where 13 does not apply either, the build's 4 to 7 decide
    pub sets_decide : negative fixed ≡ false → strict_refusal dof frames fixed sigma out_frames out_fixed ≡ set_refusal frames fixed sigma
    sets_decide n = strict_parts ∙ rw (passed, n)

  -- 13 is answered in no other case
  pub thirteen_only : strict_refusal dof frames fixed sigma out_frames out_fixed ≡ 13 → (shape ≡ 0) × (negative fixed ≡ true)
  unfolding shape_refusal set_refusal
  thirteen_only h = go shape (negative fixed) refl refl (sym strict_parts ∙ h)
    where
      few : shape ≤ 3
      few = first-at-most 3 (shape_reasons dof frames fixed out_frames out_fixed) tt

      no_more : set_refusal frames fixed sigma ≤ 7
      no_more = first-at-most 7 (set_reasons frames fixed sigma) tt

      go : (s : ℕ) (b : Bool) → shape ≡ s → negative fixed ≡ b → kept s s (cond b 13 (set_refusal frames fixed sigma)) ≡ 13 → (shape ≡ 0) × (negative fixed ≡ true)
      go zero true e n q = (e, n)
      go zero false e n q = absurd (omega (arith, no_more))
      go (suc k) b e n q = absurd (omega (arith, few))

  -- an answer other than 13 is the build's
  pub not_13 : (strict_refusal dof frames fixed sigma out_frames out_fixed ≡ 13 → ⊥) → strict_refusal dof frames fixed sigma out_frames out_fixed ≡ build_refusal dof frames fixed sigma out_frames out_fixed
  not_13 h = strict_parts ∙ go shape (negative fixed) (rw strict_parts at h) ∙ sym (in_two_parts dof frames fixed out_frames out_fixed sigma)
    where
      go : (s : ℕ) (b : Bool) → (kept s s (cond b 13 (set_refusal frames fixed sigma)) ≡ 13 → ⊥) → kept s s (cond b 13 (set_refusal frames fixed sigma)) ≡ kept s s (set_refusal frames fixed sigma)
      go zero true n = absurd (n refl)
      go zero false n = refl
      go (suc k) b n = refl
