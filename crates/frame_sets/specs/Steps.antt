-- What the functions on sets have on the way: a slice that is empty or one set, and one frame more centred. Assumes nothing.
use Rattle.std.specs.Prelude.{◌≡◌, refl, ◌⊎◌, false, true, not, List, [], ◌∷◌, ℕ, ◌+◌, ◌-◌, ◌<◌, ◌≤◌, length, take, drop, Float}
use Rattle.std.proofs.Common.{ap, ◌∙◌, ⊎_elim, suc-ne-zero, arith, length-take, length-drop, drop-drop}
use Rattle.std.specs.Float.Ieee.{le}
use borrow.Rule.Slice.PartMut.{put_mid}
use Rattle.sums.specs.Sum.{zero_f}
use Rattle.sums.specs.Fill.{written}
use Rattle.point_moments.specs.Moments.{MOMENTS, moments_of}
use Rattle.normal_blocks.specs.Somewhere.{nowhere-at}
use Rattle.point_moments.specs.Scatter.{CENTRED, has_mean}
use Rattle.plane_fit.specs.Records.{record_of}
use Rattle.frame_sets.specs.Sets.{set_count, set_at, count_at, empty_at, some_empty, fixed_count, dropped, centred_set, centred_number, centred_fixed}

-- a fixed slice that is not empty is one set
pub one_set : (fixed : List Float) → (length fixed ≡ 0) ⊎ (length fixed ≡ MOMENTS) → (length fixed ≡ 0 → ⊥) → length fixed ≡ MOMENTS
one_set fixed s h = ⊎_elim (λ e. absurd (h e)) (λ e. e) s

pub count_none : (fixed : List Float) → length fixed ≡ 0 → zero_f ≡ fixed_count fixed
unfolding fixed_count
count_none [] h = refl
count_none (x ∷ l) h = absurd (suc-ne-zero (length l) h)

pub count_some : (fixed : List Float) → (length fixed ≡ 0 → ⊥) → (moments_of fixed).count ≡ fixed_count fixed
unfolding fixed_count
count_some [] h = absurd (h refl)
count_some (x ∷ l) h = refl

pub dropped-none : (fixed : List Float) → length fixed ≡ 0 → false ≡ dropped fixed
unfolding dropped
dropped-none [] h = refl
dropped-none (x ∷ l) h = absurd (suc-ne-zero (length l) h)

pub dropped-some : (fixed : List Float) → (length fixed ≡ 0 → ⊥) → le (moments_of fixed).count zero_f ≡ dropped fixed
unfolding dropped
dropped-some [] h = absurd (h refl)
dropped-some (x ∷ l) h = refl

-- where no frame is empty each has a mean, and so has a fixed set that is not dropped
pub frame_mean : (frames : List Float) → some_empty frames ≡ false → (k : ℕ) → k < set_count frames → has_mean (set_at frames k) ≡ true
unfolding some_empty empty_at count_at
frame_mean frames h k l = ap not (nowhere-at (empty_at frames) (set_count frames) h k l)

pub fixed_mean : (fixed : List Float) → (length fixed ≡ 0 → ⊥) → dropped fixed ≡ false → has_mean (moments_of fixed) ≡ true
fixed_mean fixed n h = ap not (dropped-some fixed n ∙ h)

pub fixed_none : (fixed old : List Float) → length fixed ≡ 0 → old ≡ centred_fixed fixed old
unfolding centred_fixed
fixed_none [] old h = refl
fixed_none (x ∷ l) old h = absurd (suc-ne-zero (length l) h)

pub fixed_dropped : (fixed old : List Float) → dropped fixed ≡ true → old ≡ centred_fixed fixed old
unfolding centred_fixed
fixed_dropped [] old h = refl
fixed_dropped (x ∷ l) old h = rw h

pub fixed_kept : (fixed old : List Float) → (length fixed ≡ 0 → ⊥) → dropped fixed ≡ false → centred_set fixed ≡ centred_fixed fixed old
unfolding centred_fixed
fixed_kept [] old n h = absurd (n refl)
fixed_kept (x ∷ l) old n h = rw h

-- frame k centred into its part of the list
pub set-written : (frames out : List Float) (k at n : ℕ) (new : List Float) → n ≡ CENTRED → new ≡ centred_set (record_of MOMENTS frames k)
    → put_mid at n out new ≡ written out at CENTRED (λ r. centred_number frames r k)
unfolding written centred_number
set-written frames out k at n new e f = rw (e, f, drop-drop CENTRED at out)

-- the part that frame k is lent
pub part-size : (out : List Float) (at n : ℕ) → at + n ≤ length out → length (take (at + n - at) (drop at out)) ≡ n
part-size out at n h = simp (length-take, length-drop) (omega arith)
