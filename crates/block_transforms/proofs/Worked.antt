-- Document 02's cases of block transforms and what else pins the definitions, by computation. The numbers were worked out on paper. Assumes nothing.
use Prim.Native.Nat.{ℕ}
use mathlib.Core.Path.{◌≡◌, refl}
use mathlib.Core.Bool.{true, false}
use mathlib.Core.List.{List, [], ◌∷◌, map}
use lib.Ieee.{Float, binary64, of_bits, add, mul}
use Rattle.std.specs.Prelude.{None}
use Rattle.sums.specs.Sum.{zero_f}
use Rattle.normal_blocks.specs.Somewhere.{somewhere}
use Rattle.normal_blocks.specs.Map.{place_of, word_at, lookup, bad_word, bad_word_at, bad_words, exceeds, exceeds_at, some_exceeds}
use Rattle.block_transforms.specs.Transform.{NO_TRANSFORM, sized, shape_of, shape_at, entry_from, left_product, transformed_block, transformed_vector, width_at}
use Rattle.block_transforms.specs.Reasons.{bad_beside, misfit, misfit_at, some_misfit, through_refusal}

-- matrices of two rows by their columns, and numbers by their bit patterns
abbrev matrix : List ℕ → ℕ → ℕ → Float
matrix ps = entry_from (map (of_bits binary64) ps) 0 2

abbrev one : ℕ
one = 0x3ff0_0000_0000_0000

abbrev two : ℕ
two = 0x4000_0000_0000_0000

-- ---- "dof 2, T = (1,2)ᵀ, M by columns (1,4),(3,5), v = (5,6): U = (9,13), H += 35, g += 17"
abbrev T : ℕ → ℕ → Float
T = matrix (one ∷ two ∷ [])

abbrev M : ℕ → ℕ → Float
M = matrix (one ∷ 0x4010_0000_0000_0000 ∷ 0x4008_0000_0000_0000 ∷ 0x4014_0000_0000_0000 ∷ [])

abbrev v : ℕ → Float
v i = matrix (0x4014_0000_0000_0000 ∷ 0x4018_0000_0000_0000 ∷ []) i 0

pub left_is_9 : left_product 2 T M 0 0 ≡ of_bits binary64 0x4022_0000_0000_0000
unfolding left_product entry_from of_bits add mul
left_is_9 = refl

pub left_is_13 : left_product 2 T M 0 1 ≡ of_bits binary64 0x402a_0000_0000_0000
unfolding left_product entry_from of_bits add mul
left_is_13 = refl

pub block_is_35 : transformed_block 2 T M 0 0 ≡ of_bits binary64 0x4041_8000_0000_0000
unfolding transformed_block left_product entry_from of_bits add mul
block_is_35 = refl

pub vector_is_17 : transformed_vector 2 T v 0 ≡ of_bits binary64 0x4031_0000_0000_0000
unfolding transformed_vector entry_from of_bits add mul
vector_is_17 = refl

-- ---- the left product first: T = (1,1)ᵀ and M by columns (1,2^53),(1,0). Tᵀ-as-M = (2^53,1), whose sum is 2^53; M-as-T = (2,2^53), whose sum is 2^53 + 2
pub left-first : transformed_block 2 (matrix (one ∷ one ∷ [])) (matrix (one ∷ 0x4340_0000_0000_0000 ∷ one ∷ 0 ∷ [])) 0 0 ≡ of_bits binary64 0x4340_0000_0000_0000
unfolding transformed_block left_product entry_from of_bits add mul
left-first = refl

-- ---- sums start from the first product, so that -0 stays; a sum of no products is +0
pub minus-zero : transformed_block 1 (λ r c. of_bits binary64 one) (λ r c. of_bits binary64 0x8000_0000_0000_0000) 0 0 ≡ of_bits binary64 0x8000_0000_0000_0000
unfolding transformed_block left_product of_bits mul
minus-zero = refl

pub no_rows : (t m : ℕ → ℕ → Float) (i j : ℕ) → transformed_block 0 t m i j ≡ zero_f
unfolding transformed_block
no_rows t m i j = refl

pub no_numbers : (t : ℕ → ℕ → Float) (u : ℕ → Float) (i : ℕ) → transformed_vector 0 t u i ≡ zero_f
unfolding transformed_vector
no_numbers t u i = refl

-- ---- rising index: of 2^53, 1 and 1 the sum is 2^53, as each 1 is lost; from the last one on it would be 2^53 + 2
abbrev ones : ℕ → ℕ → Float
ones r c = of_bits binary64 one

abbrev falling : ℕ → Float
falling r = entry_from (map (of_bits binary64) (0x4340_0000_0000_0000 ∷ one ∷ one ∷ [])) 0 3 r 0

pub vector_rising : transformed_vector 3 ones falling 0 ≡ of_bits binary64 0x4340_0000_0000_0000
unfolding transformed_vector entry_from of_bits add mul
vector_rising = refl

pub left_rising : left_product 3 ones (λ r k. falling r) 0 0 ≡ of_bits binary64 0x4340_0000_0000_0000
unfolding left_product entry_from of_bits add mul
left_rising = refl

-- M has 2^53, 1 and 1 in its first row and zeros below
pub block_rising : transformed_block 3 ones (λ r k. entry_from (falling k ∷ zero_f ∷ zero_f ∷ []) 0 3 r 0) 0 0 ≡ of_bits binary64 0x4340_0000_0000_0000
unfolding transformed_block left_product entry_from of_bits add mul
block_rising = refl

-- ---- a shape is none only if both its words say so, and these are 4,294,967,295
pub none_is : shape_at (0xFFFF_FFFF ∷ 0xFFFF_FFFF ∷ []) 0 ≡ None
unfolding shape_at shape_of
none_is = refl

pub none_is_alone : shape_at (0xFFFF_FFFE ∷ 0xFFFF_FFFE ∷ []) 0 ≡ sized 0xFFFF_FFFE 0xFFFF_FFFE
unfolding shape_at shape_of
none_is_alone = refl

pub half-none : shape_at (NO_TRANSFORM ∷ 5 ∷ []) 0 ≡ sized NO_TRANSFORM 5
unfolding shape_at shape_of
half-none = refl

-- ---- one frame of dof 6 at offset 0 of an order of 5: "T 6 by 5 .. accepted", and without it 10; "T 6 by 10: 14", before 10
abbrev refused : List ℕ → List ℕ → ℕ
refused map shapes = through_refusal map (shape_at shapes) 1 6 5

pub five_fit : refused (0 ∷ []) (6 ∷ 5 ∷ []) ≡ 0
unfolding through_refusal bad_words bad_word_at bad_word somewhere some_misfit misfit_at misfit some_exceeds exceeds_at exceeds lookup word_at place_of width_at shape_at shape_of
five_fit = refl

pub six_exceed : refused (0 ∷ []) [] ≡ 10
unfolding through_refusal bad_words bad_word_at bad_word somewhere some_misfit misfit_at misfit some_exceeds exceeds_at exceeds lookup word_at place_of width_at shape_at shape_of
six_exceed = refl

pub ten-columns : refused (0 ∷ []) (6 ∷ 10 ∷ []) ≡ 14
unfolding through_refusal bad_words bad_word_at bad_word somewhere some_misfit misfit_at misfit some_exceeds exceeds_at exceeds lookup word_at place_of width_at shape_at shape_of
ten-columns = refl

-- nine columns fit, in an order of nine
pub nine-columns : through_refusal (0 ∷ []) (shape_at (6 ∷ 9 ∷ [])) 1 6 9 ≡ 0
unfolding through_refusal bad_words bad_word_at bad_word somewhere some_misfit misfit_at misfit some_exceeds exceeds_at exceeds lookup word_at place_of width_at shape_at shape_of
nine-columns = refl

-- ---- 3: of two words both slices are empty, or have 4 words and 162 numbers
pub beside_none : bad_beside 2 0 0 ≡ false
unfolding bad_beside
beside_none = refl

pub beside_two : bad_beside 2 4 162 ≡ false
unfolding bad_beside
beside_two = refl

pub shapes_alone : bad_beside 2 4 0 ≡ true
unfolding bad_beside
shapes_alone = refl

pub numbers-alone : bad_beside 2 0 162 ≡ true
unfolding bad_beside
numbers-alone = refl

pub one_more : bad_beside 2 4 163 ≡ true
unfolding bad_beside
one_more = refl

-- 9 before 14; and 14 of a word that no frame has
pub nine-first : refused (0xFFFF_FFFF ∷ []) (6 ∷ 10 ∷ []) ≡ 9
unfolding through_refusal bad_words bad_word_at bad_word somewhere some_misfit misfit_at misfit some_exceeds exceeds_at exceeds lookup word_at place_of width_at shape_at shape_of
nine-first = refl

pub no_frames_word : refused (0 ∷ 0 ∷ []) (6 ∷ 5 ∷ 3 ∷ 1 ∷ []) ≡ 14
unfolding through_refusal bad_words bad_word_at bad_word somewhere some_misfit misfit_at misfit some_exceeds exceeds_at exceeds lookup word_at place_of width_at shape_at shape_of
no_frames_word = refl
