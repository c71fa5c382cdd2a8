-- Document 02's cases by their bit patterns, a line of a table each, and the theorems at numbers. Assumes nothing.
use Prim.Native.Nat.{ℕ, ◌-◌, ◌^◌}
use mathlib.Core.Path.{◌≡◌, refl}
use mathlib.Core.Bool.{Bool, true, false}
use mathlib.Core.List.{List, [], ◌∷◌, map}
use native.Mathlib.Omega.{arith}
use lib.IntN.{ℤ, pos, negsuc, neg_ℤ}
use lib.Ieee.{binary64, of_bits, to_bits, add, mul, of_int, round}
use Rattle.counts.specs.Whole.{float_of, Whole}
use Rattle.counts.specs.Saturation.{push_saturates, merge_saturates}
use Rattle.counts.specs.Pushes.{some_push_saturates}
use Rattle.counts.proofs.Whole.{float_whole, float_and_whole, whole_product}
use Rattle.counts.proofs.Exact.{push_exact, merge_exact, merge_pushes}

-- two counts, and whether their merge is refused
pub record Case : Type 0 where
  pub a : ℕ
  pub b : ℕ
  pub refused : Bool

abbrev case : ℕ → ℕ → Bool → Case
case x y r = record { a = x; b = y; refused = r }

abbrev pub merge_cases : List Case
merge_cases =
    -- 2^53, 1
    case 0x4340_0000_0000_0000 0x3ff0_0000_0000_0000 true ∷
    -- 2^53, the least above 0
    case 0x4340_0000_0000_0000 0x0000_0000_0000_0001 true ∷
    -- 2^53, -0
    case 0x4340_0000_0000_0000 0x8000_0000_0000_0000 false ∷
    -- 2^53 + 2, -2
    case 0x4340_0000_0000_0001 0xc000_0000_0000_0000 false ∷
    -- 2^53 + 2, -1
    case 0x4340_0000_0000_0001 0xbff0_0000_0000_0000 true ∷
    -- 2^106, -2^106 + 2^53
    case 0x4690_0000_0000_0000 0xc68f_ffff_ffff_ffff false ∷
    -- 2^53 - 1, 1
    case 0x433f_ffff_ffff_ffff 0x3ff0_0000_0000_0000 false ∷
    -- 2^53 - 1, 1.5: the rounded sum is 2^53
    case 0x433f_ffff_ffff_ffff 0x3ff8_0000_0000_0000 true ∷
    -- an infinity, -1e308
    case 0x7ff0_0000_0000_0000 0xffe1_ccf3_85eb_c8a0 true ∷
    -- a negative infinity, 1e308
    case 0xfff0_0000_0000_0000 0x7fe1_ccf3_85eb_c8a0 false ∷
    -- opposite infinities
    case 0x7ff0_0000_0000_0000 0xfff0_0000_0000_0000 false ∷
    -- two infinities
    case 0x7ff0_0000_0000_0000 0x7ff0_0000_0000_0000 true ∷
    -- a NaN, an infinity
    case 0x7ff8_0000_0000_0000 0x7ff0_0000_0000_0000 false ∷
    -- 2^53, a NaN
    case 0x4340_0000_0000_0000 0x7ff8_0000_0000_0000 false ∷
    -- 2^52, 2^52
    case 0x4330_0000_0000_0000 0x4330_0000_0000_0000 false ∷
    -- 2^54, -2^53
    case 0x4350_0000_0000_0000 0xc340_0000_0000_0000 false ∷
    -- 2^54, -2^53 + 1
    case 0x4350_0000_0000_0000 0xc33f_ffff_ffff_ffff true ∷
    -- 2^54 + 4, -2^53
    case 0x4350_0000_0000_0001 0xc340_0000_0000_0000 true ∷
    -- 2^107, -2^107 + 2^54
    case 0x46a0_0000_0000_0000 0xc69f_ffff_ffff_ffff true ∷
    []

pub merge_cases_lem : map (λ c. merge_saturates (of_bits binary64 c.a) (of_bits binary64 c.b)) merge_cases ≡ map (λ c. c.refused) merge_cases
unfolding merge_saturates of_bits
merge_cases_lem = refl

-- a count, and whether a push is refused: 2^53, 2^53 - 1, 2^53 + 2, -2^53, the two infinities, a NaN
abbrev pub push_cases : List (ℕ × Bool)
push_cases =
    (0x4340_0000_0000_0000, true) ∷
    (0x433f_ffff_ffff_ffff, false) ∷
    (0x4340_0000_0000_0001, true) ∷
    (0xc340_0000_0000_0000, false) ∷
    (0x7ff0_0000_0000_0000, true) ∷
    (0xfff0_0000_0000_0000, false) ∷
    (0x7ff8_0000_0000_0000, false) ∷
    []

pub push_cases_lem : map (λ c. push_saturates (of_bits binary64 c.0)) push_cases ≡ map (λ c. c.1) push_cases
unfolding push_saturates of_bits
push_cases_lem = refl

-- ---- the theorems at numbers

-- 2^53 - 1 and 1: accepted, and the new count is 2^53
abbrev almost : ℤ
almost = pos (2 ^ 53 - 1)

pub accepted : Whole (add binary64 (float_of almost) (float_of (pos 1))) (pos (2 ^ 53))
unfolding push_saturates of_int round
accepted = push_exact (float_of almost) almost (float_whole almost (omega arith)) tt refl

-- 2^53: refused, and the count stands still
pub stands_still : to_bits binary64 (add binary64 (of_bits binary64 0x4340_0000_0000_0000) (of_bits binary64 0x3ff0_0000_0000_0000)) ≡ 0x4340_0000_0000_0000
unfolding to_bits of_bits add
stands_still = refl

-- 2^53 + 2: refused, and the count would be 2^53 + 4
pub is_wrong : to_bits binary64 (add binary64 (of_bits binary64 0x4340_0000_0000_0001) (of_bits binary64 0x3ff0_0000_0000_0000)) ≡ 0x4340_0000_0000_0002
unfolding to_bits of_bits add
is_wrong = refl

-- 2^53 and 2: refused, as the document has it, though the new count would be 2^53 + 2
pub refused_though_exact : merge_saturates (of_bits binary64 0x4340_0000_0000_0000) (of_bits binary64 0x4000_0000_0000_0000) ≡ true
unfolding merge_saturates of_bits
refused_though_exact = refl

pub would_be_exact : to_bits binary64 (add binary64 (of_bits binary64 0x4340_0000_0000_0000) (of_bits binary64 0x4000_0000_0000_0000)) ≡ 0x4340_0000_0000_0001
unfolding to_bits of_bits add
would_be_exact = refl

-- three points merged into 2^53 - 2: the third of three pushes would be refused, and so is the merge
pub third_push : merge_saturates (float_of (pos (2 ^ 53 - 2))) (float_of (pos 3)) ≡ some_push_saturates 3 (float_of (pos (2 ^ 53 - 2)))
third_push =
    merge_pushes (float_of (pos (2 ^ 53 - 2))) (float_of (pos 3)) (2 ^ 53 - 2) 3 (float_whole (pos (2 ^ 53 - 2)) (omega arith)) (float_whole (pos 3) (omega arith)) (omega arith)

-- -(2^53 - 1) and -1: accepted, and the new count is -2^53
pub negative : Whole (add binary64 (float_of (neg_ℤ almost)) (float_of (negsuc 0))) (neg_ℤ (pos (2 ^ 53)))
unfolding merge_saturates of_int round
negative =
    merge_exact (float_of (neg_ℤ almost)) (float_of (negsuc 0)) (neg_ℤ almost) (negsuc 0) (float_whole (neg_ℤ almost) (omega arith)) (float_whole (negsuc 0) (omega arith)) (omega arith) refl

-- -2^53 and -1: accepted, as the document has it, and the count stands still. So the theorems ask for a sum that is not below -2^53.
pub far_below : merge_saturates (of_bits binary64 0xc340_0000_0000_0000) (of_bits binary64 0xbff0_0000_0000_0000) ≡ false
unfolding merge_saturates of_bits
far_below = refl

pub far_below_stands_still : to_bits binary64 (add binary64 (of_bits binary64 0xc340_0000_0000_0000) (of_bits binary64 0xbff0_0000_0000_0000)) ≡ 0xc340_0000_0000_0000
unfolding to_bits of_bits add
far_below_stands_still = refl

-- -1 times 0 is -0, which the float of 0 is not: so of a product it is said which whole number it is. Added to a float of a whole number it gives one again.
pub product-minus-zero : to_bits binary64 (mul binary64 (float_of (negsuc 0)) (float_of (pos 0))) ≡ 0x8000_0000_0000_0000
unfolding to_bits mul of_int round
product-minus-zero = refl

pub zero-and-product : add binary64 (float_of (pos 0)) (mul binary64 (float_of (negsuc 0)) (float_of (pos 0))) ≡ float_of (pos 0)
zero-and-product =
    float_and_whole (pos 0) (pos 0) (mul binary64 (float_of (negsuc 0)) (float_of (pos 0))) (omega arith)
    (whole_product (float_of (negsuc 0)) (float_of (pos 0)) (negsuc 0) (pos 0) (float_whole (negsuc 0) (omega arith)) (float_whole (pos 0) (omega arith)) (omega arith))
