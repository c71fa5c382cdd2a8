-- What 13 buys: the point total that an accepted strict call reports is the total of its test 5, and no dropped set lowered it. Assumes nothing.
use Prim.Native.Nat.{ℕ, zero, suc, ◌+◌, ◌*◌, ◌^◌, ◌<◌}
use mathlib.Core.Path.{◌≡◌, refl, sym, ap, ◌∙◌, subst}
use mathlib.Core.Bool.{Bool, true, false, cond, true≢false}
use mathlib.Core.List.{List}
use native.Mathlib.Nat.{suc-ne-zero}
use native.Mathlib.Omega.{arith}
use lib.Dec.{ltb, eqb}
use lib.ListN.{length}
use lib.IntN.{pos}
use lib.Ieee.{Float, nan, inf, fin, Format, binary64, prec, emax, low, of_bits, of_fields, odd, units, round, sum, add, lt}
use Rattle.refusals.specs.Refusal.{none, kept}
use Rattle.sums.specs.Sum.{◌⊕◌, zero_f, sum_from_zero}
use Rattle.sums.proofs.Zeros.{Zero, zero_added}
use Rattle.derivative.specs.Action.{most_dof}
use Rattle.frame_sets.specs.Sets.{set_count, count_at, count_sum, fixed_count, dropped, some_empty, three, points}
use Rattle.plane_moments.specs.Build.{Outputs, bad_shapes, outputs, built, built_count}
use Rattle.strict_build.specs.Strict.{negative, kept_total, too_few_kept, strict_refusal, BuildsStrictly}
use Rattle.strict_build.proofs.Laws.{dropped-zero, sum_fits, dropped_adds, kept_adds, not_13}

-- ---- a sum of counts above 0 is not -0

-- a NaN, or without the minus sign
abbrev Plus : Float → Type 0
Plus nan = Unit
Plus (inf s) = s ≡ false
Plus (fin s m e) = s ≡ false

above-plus : (x : Float) → lt zero_f x ≡ true → Plus x
unfolding lt of_bits of_fields odd
above-plus nan h = tt
above-plus (inf true) h = sym h
above-plus (inf false) h = refl
above-plus (fin true m e) h = sym h
above-plus (fin false m e) h = refl

odd_plus : (d q k l : ℕ) → Plus (odd d false q k l)
unfolding odd
odd_plus d zero k l = refl
odd_plus d (suc q) k l = refl

units_plus : (f : Format) (q k : ℕ) → Plus (units f false q k)
unfolding units
units_plus f q k = go (ltb (q * 2 ^ k) (2 ^ (low f + suc (emax f))))
  where
    go : (b : Bool) → Plus (cond b (odd (suc (prec f)) false q k (low f)) (inf false))
    go true = odd_plus (suc (prec f)) q k (low f)
    go false = refl

round-plus : (f : Format) (a c : ℕ) → Plus (round f false a c)
unfolding round
round-plus f a c = units_plus f _ _

add-plus : (f : Format) (x y : Float) → Plus x → Plus y → Plus (add f x y)
unfolding add sum
add-plus f nan y p q = tt
add-plus f (inf s) nan p q = tt
add-plus f (inf false) (inf false) p q = refl
add-plus f (inf false) (inf true) p q = tt
add-plus f (inf true) (inf t) p q = absurd (true≢false p)
add-plus f (inf s) (fin t n d) p q = p
add-plus f (fin s m e) nan p q = tt
add-plus f (fin s m e) (inf t) p q = q
add-plus f (fin false m e) (fin false n d) p q = round-plus f _ _
add-plus f (fin false m e) (fin true n d) p q = absurd (true≢false q)
add-plus f (fin true m e) (fin t n d) p q = absurd (true≢false p)

sum-plus : (frames : List Float) → ((k : ℕ) → k < set_count frames → lt zero_f (count_at frames k) ≡ true) → Plus (count_sum frames)
unfolding count_sum
sum-plus frames above = go (set_count frames) (λ k h. above-plus (count_at frames k) (above k h))
  where
    go : (n : ℕ) → ((k : ℕ) → k < n → Plus (count_at frames k)) → Plus (sum_from_zero n (count_at frames))
    go zero h = unfold of_bits of_fields odd in refl
    go (suc n) h = add-plus binary64 (sum_from_zero n (count_at frames)) (count_at frames n) (go n (λ k l. h k (omega arith))) (h n (omega arith))

plus-zero : Zero zero_f
unfolding of_bits of_fields odd
plus-zero = record { sign = false; exponent = pos 0; is = refl }

module _ (frames fixed : List Float) (above : (k : ℕ) → k < set_count frames → lt zero_f (count_at frames k) ≡ true) where
  -- a zero added to such a sum leaves its bits
  zero-kept : (z : Float) → Zero z → count_sum frames ⊕ z ≡ count_sum frames
  zero-kept z q = rw q.is (zero_added binary64 (count_sum frames) q.sign q.exponent (sum_fits frames) (λ e. absurd (true≢false (subst Plus e (sum-plus frames above)))))

  reported : points frames fixed ≡ kept_total frames fixed
  unfolding points
  reported = go (dropped fixed) refl
    where
      go : (b : Bool) → dropped fixed ≡ b → count_sum frames ⊕ cond b zero_f (fixed_count fixed) ≡ kept_total frames fixed
      go true d = zero-kept zero_f plus-zero ∙ sym (dropped_adds frames fixed d)
      go false d = sym (kept_adds frames fixed d)

-- ---- the theorem
-- what an accepted strict call reports of its sets
pub record Reports (frames fixed : List Float) (total : Float) : Type 0 where
  -- the total that is reported is the total of test 5, which is not below 3
  pub tested : total ≡ kept_total frames fixed
  pub enough : lt total three ≡ false
  -- no fixed count is below 0, and where the set is dropped, the total is that of the frames alone
  pub counted : negative fixed ≡ false
  pub not_lowered : dropped fixed ≡ true → total ≡ count_sum frames
  -- it is what the old call's test 5 looks at, too
  pub as_before : total ≡ count_sum frames ⊕ fixed_count fixed

module _ (dof : ℕ) (frames fixed : List Float) (sigma : Float) (out_frames out_fixed : List Float) where
  -- 13 and 5 do not apply, and each count is above 0
  passed : strict_refusal dof frames fixed sigma out_frames out_fixed ≡ 0 → (negative fixed ≡ false) × (too_few_kept frames fixed ≡ false)
  unfolding strict_refusal
  passed h =
      let one = none (ltb most_dof dof) 0 _ h in
      let two = none (eqb (length frames) 0) 1 _ one.1 in
      let third = none (bad_shapes frames fixed out_frames out_fixed) 2 _ two.1 in
      let thirteenth = none (negative fixed) 12 _ third.1 in
      let fourth = none (some_empty frames) 3 _ thirteenth.1 in
      (thirteenth.0, (none (too_few_kept frames fixed) 4 _ fourth.1).0)

  counts_above : strict_refusal dof frames fixed sigma out_frames out_fixed ≡ 0 → (k : ℕ) → k < set_count frames → lt zero_f (count_at frames k) ≡ true
  counts_above h = built_count dof frames fixed sigma out_frames out_fixed (sym (not_13 dof frames fixed sigma out_frames out_fixed (λ e. absurd (suc-ne-zero 12 (sym e ∙ h)))) ∙ h)

  pub accepted_total : strict_refusal dof frames fixed sigma out_frames out_fixed ≡ 0 → Reports frames fixed (points frames fixed)
  accepted_total h = record {
    tested = is;
    enough = ap (λ (x : Float). lt x three) is ∙ (unfold too_few_kept in (passed h).1);
    counted = (passed h).0;
    not_lowered = λ d. is ∙ dropped_adds frames fixed d;
    as_before = is ∙ go (dropped fixed) refl;
  }
    where
      is : points frames fixed ≡ kept_total frames fixed
      is = reported frames fixed (counts_above h)

      go : (b : Bool) → dropped fixed ≡ b → kept_total frames fixed ≡ count_sum frames ⊕ fixed_count fixed
      go true d = dropped_adds frames fixed d ∙ sym (zero-kept frames fixed (counts_above h) (fixed_count fixed) (dropped-zero fixed (passed h).0 d))
      go false d = kept_adds frames fixed d

  -- the same of a call by its contract
  pub strict-total : (before : Float) (drop : ℕ) {outFrames' outFixed' : List Float} {points' : Float} {drop' : ℕ}
      → BuildsStrictly dof frames fixed sigma out_frames out_fixed before drop 0 outFrames' outFixed' points' drop' → Reports frames fixed points'
  unfolding built
  strict-total before drop {points' = points'} call =
      let h = sym call.number_is in
      let left = call.left_is ∙ ap (λ (k : ℕ). kept k (outputs out_frames out_fixed before drop) (built frames fixed out_fixed)) h in
      subst (λ (x : Float). Reports frames fixed x) (sym (ap (λ (o : Outputs). o.points) left)) (accepted_total h)
