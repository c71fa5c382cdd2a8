-- The multiplying call on maps of two words, and its refusals, by computation. The numbers were worked out on paper. Assumes nothing.
use Prim.Native.Nat.{ℕ}
use mathlib.Core.Path.{◌≡◌, refl}
use mathlib.Core.Bool.{true, false}
use mathlib.Core.List.{List, [], ◌∷◌, ◌++◌, map}
use lib.ListN.{replicate}
use lib.Ieee.{Float, binary64, of_bits, add, mul}
use Rattle.sums.specs.Sum.{zero_f}
use Rattle.normal_blocks.specs.Somewhere.{somewhere}
use Rattle.normal_blocks.specs.Map.{bad_word, bad_word_at, bad_words}
use Rattle.block_transforms.specs.Transform.{NO_TRANSFORM, shape_of, shape_at, entry_from}
use Rattle.block_transforms.specs.Reasons.{bad_beside, misfit}
use Rattle.transform_maps.specs.Multiply.{Work, bad_slices, too_wide, wide_at, some_wide, unchained, bad_further, transform_refusal, newly_made, chained, or_else, replaced, new_shapes, new_transforms}

abbrev one : Float
one = of_bits binary64 0x3ff0_0000_0000_0000

abbrev two : Float
two = of_bits binary64 0x4000_0000_0000_0000

abbrev three : Float
three = of_bits binary64 0x4008_0000_0000_0000

abbrev five : Float
five = of_bits binary64 0x4014_0000_0000_0000

-- (1,2)ᵀ, and numbers behind it on which nothing depends
abbrev further : List Float
further = one ∷ two ∷ replicate 79 five

-- it becomes the transform of word 1; there was none
abbrev alone : List ℕ → ℕ → List ℕ → Work
alone map place shape = record { dof = 2; map = map; shapes = []; transforms = []; place = place; further-shape = shape; further = further }

-- it multiplies that of word 0, the row (3,5); word 1 has none, and 81 numbers
abbrev before : List Float
before = (three ∷ five ∷ replicate 79 one) ++ replicate 81 three

abbrev row : ℕ → Work
row place =
    record { dof = 2; map = 0 ∷ 2 ∷ []; shapes = 1 ∷ 2 ∷ NO_TRANSFORM ∷ NO_TRANSFORM ∷ []; transforms = before; place = place; further-shape = 2 ∷ 1 ∷ []; further = further }

-- ---- what is written
pub alone_shapes : new_shapes (alone (0 ∷ 2 ∷ []) 1 (2 ∷ 1 ∷ [])) ≡ NO_TRANSFORM ∷ NO_TRANSFORM ∷ 2 ∷ 1 ∷ []
unfolding replaced or_else shape_at shape_of
alone_shapes = refl

pub alone-numbers : new_transforms (alone (0 ∷ 2 ∷ []) 1 (2 ∷ 1 ∷ [])) ≡ replicate 81 zero_f ++ one ∷ two ∷ replicate 79 zero_f
unfolding replaced or_else shape_at shape_of newly_made entry_from
alone-numbers = refl

pub row_shapes : new_shapes (row 0) ≡ 2 ∷ 2 ∷ NO_TRANSFORM ∷ NO_TRANSFORM ∷ []
unfolding replaced or_else shape_at shape_of
row_shapes = refl

-- by columns (3,6) and (5,10)
pub row-numbers : new_transforms (row 0)
    ≡ (three ∷ of_bits binary64 0x4018_0000_0000_0000 ∷ five ∷ of_bits binary64 0x4024_0000_0000_0000 ∷ replicate 77 zero_f) ++ replicate 81 three
unfolding replaced or_else shape_at shape_of newly_made chained entry_from of_bits mul
row-numbers = refl

-- ---- a product over three rows: rising index, as 2^53 + 1 + 1 is 2^53 and 1 + 1 + 2^53 would be 2^53 + 2; and from the first product, so that -0 stays
abbrev entries : List ℕ → ℕ → ℕ → Float
entries ps r c = entry_from (map (of_bits binary64) ps) 0 1 r c

pub chained_rising : chained 3 (entries (0x4340_0000_0000_0000 ∷ 0x3ff0_0000_0000_0000 ∷ 0x3ff0_0000_0000_0000 ∷ [])) (λ k c. one) 0 0 ≡ of_bits binary64 0x4340_0000_0000_0000
unfolding chained entry_from of_bits add mul
chained_rising = refl

pub chained-minus-zero : chained 1 (λ r k. of_bits binary64 0x8000_0000_0000_0000) (λ k c. one) 0 0 ≡ of_bits binary64 0x8000_0000_0000_0000
unfolding chained of_bits mul
chained-minus-zero = refl

-- a place past the map's end changes no word
pub past_shapes : new_shapes (row 2) ≡ 1 ∷ 2 ∷ NO_TRANSFORM ∷ NO_TRANSFORM ∷ []
unfolding replaced or_else
past_shapes = refl

pub past-numbers : new_transforms (row 2) ≡ before
unfolding replaced or_else
past-numbers = refl

-- ---- why it is refused: not at all; the further one "none"; with other than dof rows, though no word is at the place; 3 before 9; 9 before 14
pub accepted : transform_refusal (row 0) 4 162 ≡ 0
unfolding transform_refusal bad_slices bad_beside bad_words bad_word_at bad_word somewhere some_wide wide_at too_wide bad_further misfit unchained shape_at shape_of
accepted = refl

pub none-refused : transform_refusal (alone (0 ∷ 2 ∷ []) 1 (NO_TRANSFORM ∷ NO_TRANSFORM ∷ [])) 4 162 ≡ 14
unfolding transform_refusal bad_slices bad_beside bad_words bad_word_at bad_word somewhere some_wide wide_at too_wide bad_further misfit unchained shape_at shape_of
none-refused = refl

pub past-refused : transform_refusal (alone (0 ∷ 2 ∷ []) 2 (3 ∷ 1 ∷ [])) 4 162 ≡ 14
unfolding transform_refusal bad_slices bad_beside bad_words bad_word_at bad_word somewhere some_wide wide_at too_wide bad_further misfit unchained shape_at shape_of
past-refused = refl

pub three-first : transform_refusal (alone (0 ∷ 0xFFFF_FFFF ∷ []) 1 (2 ∷ 1 ∷ [])) 4 161 ≡ 3
unfolding transform_refusal bad_slices bad_beside bad_words bad_word_at bad_word somewhere some_wide wide_at too_wide bad_further misfit unchained shape_at shape_of
three-first = refl

pub nine-first : transform_refusal (alone (0 ∷ 0xFFFF_FFFF ∷ []) 1 (3 ∷ 1 ∷ [])) 4 162 ≡ 9
unfolding transform_refusal bad_slices bad_beside bad_words bad_word_at bad_word somewhere some_wide wide_at too_wide bad_further misfit unchained shape_at shape_of
nine-first = refl

-- 1 before 3
pub one-first : transform_refusal (record { dof = 10; map = 0 ∷ []; shapes = 1 ∷ []; transforms = []; place = 0; further-shape = 2 ∷ 1 ∷ []; further = further }) 2 81 ≡ 1
unfolding transform_refusal
one-first = refl

-- 3: at most 1,024 words; shapes and numbers go together; the further one has two words and 81 numbers; the outputs have room for all words
pub most_words : bad_slices 1024 0 0 2 81 2048 82944 ≡ false
unfolding bad_slices bad_beside
most_words = refl

pub too_many_words : bad_slices 1025 0 0 2 81 2050 83025 ≡ true
unfolding bad_slices bad_beside
too_many_words = refl

pub numbers-alone : bad_slices 1 0 81 2 81 2 81 ≡ true
unfolding bad_slices bad_beside
numbers-alone = refl

pub shapes_alone : bad_slices 1 2 0 2 81 2 81 ≡ true
unfolding bad_slices bad_beside
shapes_alone = refl

-- 14: a word of ten columns, at the place or not; a further one with more columns than the old one has rows, and with fewer; rows of another word are not tested
abbrev between : List ℕ → List ℕ → Work
between shapes shape = record { dof = 2; map = 0 ∷ 2 ∷ []; shapes = shapes; transforms = before; place = 0; further-shape = shape; further = further }

pub ten-columns : transform_refusal (between (1 ∷ 2 ∷ 2 ∷ 10 ∷ []) (2 ∷ 1 ∷ [])) 4 162 ≡ 14
unfolding transform_refusal bad_slices bad_beside bad_words bad_word_at bad_word somewhere some_wide wide_at too_wide bad_further misfit unchained shape_at shape_of
ten-columns = refl

pub nine-columns : transform_refusal (between (1 ∷ 9 ∷ 7 ∷ 9 ∷ []) (2 ∷ 1 ∷ [])) 4 162 ≡ 0
unfolding transform_refusal bad_slices bad_beside bad_words bad_word_at bad_word somewhere some_wide wide_at too_wide bad_further misfit unchained shape_at shape_of
nine-columns = refl

pub more_columns : transform_refusal (between (1 ∷ 2 ∷ 2 ∷ 1 ∷ []) (2 ∷ 2 ∷ [])) 4 162 ≡ 14
unfolding transform_refusal bad_slices bad_beside bad_words bad_word_at bad_word somewhere some_wide wide_at too_wide bad_further misfit unchained shape_at shape_of
more_columns = refl

pub fewer_columns : transform_refusal (between (2 ∷ 2 ∷ 2 ∷ 1 ∷ []) (2 ∷ 1 ∷ [])) 4 162 ≡ 14
unfolding transform_refusal bad_slices bad_beside bad_words bad_word_at bad_word somewhere some_wide wide_at too_wide bad_further misfit unchained shape_at shape_of
fewer_columns = refl
