-- The survey rule's cases: one frame's count and the fixed set's, what the two builds answer, and what the theorems say of one of them. Assumes nothing.
use Prim.Native.Nat.{ℕ}
use mathlib.Core.Path.{◌≡◌, refl, sym}
use mathlib.Core.Bool.{true}
use mathlib.Core.List.{List, [], ◌∷◌}
use native.Mathlib.Nat.{suc-ne-zero}
use lib.ListN.{replicate}
use lib.Ieee.{Float, binary64, of_bits, to_bits, add, lt, le}
use Rattle.sums.specs.Sum.{◌⊕◌, zero_f}
use Rattle.validate.specs.Finite.{all_finite, finite_above}
use Rattle.normal_blocks.specs.Somewhere.{somewhere}
use Rattle.plane_fit.specs.Records.{record_of}
use Rattle.plane_fit.specs.Calls.{bad_records, bad_count}
use Rattle.frame_sets.specs.Sets.{centred_fixed, fixed_count, count_at, count_sum, dropped, empty_at, some_empty, too_few, not_finite, points}
use Rattle.refusals.specs.Refusal.{accepted}
use Rattle.plane_moments.specs.Build.{bad_shapes, build_refusal, Outputs, built, Builds}
use Rattle.strict_build.specs.Strict.{negative, kept_total, too_few_kept, strict_refusal, BuildsStrictly}
use Rattle.strict_build.proofs.StrictAgrees.{strict_agrees}
use Rattle.strict_build.proofs.StrictTotal.{Reports, strict-total}

-- 0.5, 1, 2, 3, 4, 5, -0, -1, -3, minus infinity and a NaN, by their bits
abbrev half : ℕ
half = 0x3fe0_0000_0000_0000

abbrev one : ℕ
one = 0x3ff0_0000_0000_0000

abbrev two : ℕ
two = 0x4000_0000_0000_0000

abbrev three : ℕ
three = 0x4008_0000_0000_0000

abbrev four : ℕ
four = 0x4010_0000_0000_0000

abbrev five : ℕ
five = 0x4014_0000_0000_0000

abbrev minus_zero : ℕ
minus_zero = 0x8000_0000_0000_0000

abbrev minus_one : ℕ
minus_one = 0xbff0_0000_0000_0000

abbrev minus_three : ℕ
minus_three = 0xc008_0000_0000_0000

abbrev minus_infinity : ℕ
minus_infinity = 0xfff0_0000_0000_0000

abbrev not_a_number : ℕ
not_a_number = 0x7ff8_0000_0000_0000

-- a set of so many points at the origin, by the count's pattern
abbrev set : ℕ → List Float
set count = of_bits binary64 count ∷ replicate 12 zero_f

-- one frame and a fixed set, by their counts, and both outputs of their lengths
abbrev strict : ℕ → ℕ → ℕ → ℕ
strict dof frame fixed = strict_refusal dof (set frame) (set fixed) (of_bits binary64 half) (replicate 13 zero_f) (replicate 13 zero_f)

abbrev old : ℕ → ℕ → ℕ → ℕ
old dof frame fixed = build_refusal dof (set frame) (set fixed) (of_bits binary64 half) (replicate 13 zero_f) (replicate 13 zero_f)

-- the answers of both calls
abbrev both : ℕ → ℕ → ℕ → ℕ × ℕ
both dof frame fixed = (strict dof frame fixed, old dof frame fixed)

-- (5, -1) is 13, and the old build accepts it; (5, -3) is 13 where the old says 5; (-1, -1) is 13 before 4; dof 10 is 1 before 13; (5, 0) and (5, -0) are accepted;
-- (2, 0.5) and (2, -0) are 5, and (2, 1) is accepted; minus infinity is 13, a NaN is not, and both builds find it by 6
unfoldable pub cases : List (ℕ × ℕ)
cases =
    both 6 five minus_one ∷ both 6 five minus_three ∷ both 6 minus_one minus_one ∷ both 10 five minus_one ∷ both 6 five 0 ∷ both 6 five minus_zero ∷
    both 6 two half ∷ both 6 two minus_zero ∷ both 6 two one ∷ both 6 five minus_infinity ∷ both 6 five not_a_number ∷ []

pub cases_are : cases ≡ (13, 0) ∷ (13, 5) ∷ (13, 4) ∷ (1, 1) ∷ (0, 0) ∷ (0, 0) ∷ (5, 5) ∷ (5, 5) ∷ (0, 0) ∷ (13, 5) ∷ (6, 6) ∷ []
unfolding cases to_bits of_bits add lt le somewhere all_finite finite_above record_of bad_records bad_count fixed_count count_at count_sum dropped empty_at some_empty too_few not_finite points bad_shapes build_refusal negative kept_total too_few_kept strict_refusal
cases_are = refl

-- ---- totals: the kept one, the one that the old build tests, and the one that a build reports
abbrev totals : ℕ → ℕ → List ℕ
totals frame fixed =
    to_bits binary64 (kept_total (set frame) (set fixed)) ∷ to_bits binary64 (count_sum (set frame) ⊕ fixed_count (set fixed)) ∷ to_bits binary64 (points (set frame) (set fixed)) ∷ []

-- of (5, -1), where the old build reports 5 and has tested 4, and of (5, -0) and (2, 1), where the three are one
unfoldable pub counted : List (List ℕ)
counted = totals five minus_one ∷ totals five minus_zero ∷ totals two one ∷ []

pub counted_are : counted ≡ (five ∷ four ∷ five ∷ []) ∷ (five ∷ five ∷ five ∷ []) ∷ (three ∷ three ∷ three ∷ []) ∷ []
unfolding counted to_bits of_bits add lt le record_of fixed_count count_at count_sum dropped points kept_total
counted_are = refl

-- ---- the theorems at (5, -0), where the outputs hold zeros, the total 2 and the flag 7: the calls are there, and so the hypotheses can be met
abbrev before : List Float
before = replicate 13 zero_f

abbrev after : Outputs
after = built (set five) (set minus_zero) before

pub strict_call : BuildsStrictly 6 (set five) (set minus_zero) (of_bits binary64 half) before before (of_bits binary64 two) 7 0 after.frames after.fixed after.points after.dropped
unfolding of_bits add lt le somewhere all_finite finite_above record_of bad_records bad_count fixed_count count_at count_sum dropped empty_at some_empty not_finite bad_shapes negative kept_total too_few_kept strict_refusal
strict_call = accepted refl refl

pub old_call : Builds 6 (set five) (set minus_zero) (of_bits binary64 half) before before (of_bits binary64 two) 7 0 after.frames after.fixed after.points after.dropped
unfolding of_bits add lt le somewhere all_finite finite_above record_of bad_records bad_count fixed_count count_at count_sum dropped empty_at some_empty too_few not_finite bad_shapes build_refusal
old_call = accepted refl refl

-- the fixed slice is as it was, and the flag is 1
pub left_there : (after.fixed ≡ before) × (after.dropped ≡ 1)
unfolding built centred_fixed of_bits lt le dropped
left_there = (refl, refl)

-- whatever the old call answers and leaves there is what the strict call does
pub agreed : {q : ℕ} {out_frames out_fixed : List Float} {total : Float} {drop : ℕ}
    → Builds 6 (set five) (set minus_zero) (of_bits binary64 half) before before (of_bits binary64 two) 7 q out_frames out_fixed total drop
    → (0 ≡ q) × (after.frames ≡ out_frames) × (after.fixed ≡ out_fixed) × (after.points ≡ total) × (after.dropped ≡ drop)
agreed old = strict_agrees 6 (set five) (set minus_zero) (of_bits binary64 half) before before (of_bits binary64 two) 7 strict_call old (λ e. absurd (suc-ne-zero 12 (sym e)))

-- the total that it reports is the one that it has tested, the frames' own, and what the old call tests
reported : Reports (set five) (set minus_zero) after.points
reported = strict-total 6 (set five) (set minus_zero) (of_bits binary64 half) before before (of_bits binary64 two) 7 strict_call

pub total_there : (after.points ≡ kept_total (set five) (set minus_zero)) × (dropped (set minus_zero) ≡ true → after.points ≡ count_sum (set five)) × (after.points ≡ count_sum (set five) ⊕ fixed_count (set minus_zero))
total_there = (reported.tested, reported.not_lowered, reported.as_before)
