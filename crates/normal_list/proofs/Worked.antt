-- A LIST OF EIGHT CALLS of both factors, with transforms and without, on a Hessian of order 12, to which the theorem applies. Its numbers were worked out on
-- paper. Assumes nothing.
--
--     rows  0 1 2 3 4 5 6 7 8 9 10 11
--     past    . .                       refused: its second frame's two rows from row 11 on do not fit. Its first frame's rows are those of another call
--     seen    1 1                       two frames of two columns, which overlap at row 1, and a fixed set
--               2 2
--     matched       m m                 a match list of two matches, which begins where `seen` ends
--     flat              f               without plane, where `matched` ends
--     nowhere                           a frame without a word in the map
--     narrowed            1             the frames of `seen`, the first through a transform of two by one, the second as it is
--                                 2 2
--     widened               m m m       the match list through a transform of two by three. With two rows the first frame of `narrowed` would meet it
--     misshapen                         refused: a transform of three rows, of a word that no frame has
use Rattle.std.specs.Prelude.{ℕ, zero, suc, ◌+◌, ◌≤◌, ◌≡◌, refl, List, [], ◌∷◌, ◌++◌, map, ◌⊎◌, length, get_or, replicate, Float}
use Rattle.std.proofs.Common.{inl, inr, ⊎_elim}
use native.Mathlib.Omega.{arith}
use Rattle.std.specs.Float.{nan, binary64}
use Rattle.std.specs.Float.Ieee.{of_bits, add, mul, sub, div, neg, lt, le}
use Rattle.sums.specs.Sum.{◌⊕◌, zero_f}
use Rattle.terms.specs.Terms.{cell_of, upto}
use Rattle.validate.specs.Finite.{all_finite, finite_above}
use Rattle.std.specs.Prelude.{Some}
use Rattle.normal_blocks.specs.Somewhere.{somewhere}
use Rattle.normal_blocks.specs.Map.{place_of, word_at, lookup, bad_word, bad_word_at, bad_words, exceeds, exceeds_at, some_exceeds}
use Rattle.normal_blocks.specs.Calls.{bad_target}
use Rattle.call_lists.specs.Lists.{In, Every}
use Rattle.call_lists.specs.ListLaws.{every_in}
use Rattle.call_lists.specs.Segments.{frame_segment}
use Rattle.call_lists.proofs.SegmentLaws.{all_apart_lem}
use Rattle.call_lists.specs.Calls.{refusal, cost, Made}
use Rattle.call_lists.specs.Frames.{hessian_cell, gradient_cell}
use Rattle.total_order.specs.Three.{before, order_of}
use Rattle.decomposition.specs.Axes.{rising_of}
use Rattle.decomposition.specs.Gaps.{absolute, at_least_one, frames_plane}
use Rattle.plane_fit.specs.Axis.{smallest_axis}
use Rattle.plane_fit.specs.Calls.{bad_records, bad_count}
use Rattle.plane_fit.specs.Records.{record_of}
use Rattle.plane_fit.specs.Fit.{fit_mean, weighted, total, count_at, weighted_at}
use Rattle.derivative.specs.Derivative.{normal_row, combined, shifted}
use Rattle.frame_cost.specs.Cost.{weight_of, scatter_on, cost_of, frame_cost, fixed_cost, cost_at, frames_cost}
use Rattle.frame_segment.specs.Frame.{block_entry, pulled_entry}
use Rattle.frame_parts.specs.Frame.{vector_entry}
use Rattle.match_rows.specs.Row.{residual_at, row_at}
use Rattle.match_sums.specs.Groups.{group_size, group_sum, by_groups, cost_term, block_term, vector_term, list_cost, list_block, list_vector}
use Rattle.block_transforms.specs.Transform.{without, NO_TRANSFORM, shape_of, shape_at, entry_from, left_product, transformed_block, transformed_vector, width_at}
use Rattle.block_transforms.specs.Reasons.{bad_beside, misfit, misfit_at, some_misfit}
use Rattle.plane_moments.specs.Accumulate.{FramesWork, bad_lengths, transformed_frames_refusal, fit_of}
use Rattle.map_plane.specs.Match.{bad_point, bad_sigma}
use Rattle.map_planes.specs.Calls.{bad_matches, reasons_at}
use Rattle.map_planes.specs.Accumulate.{transformed_matches_refusal}
use Rattle.map_planes.specs.Accumulate as map_planes
use Rattle.normal_list.specs.Work.{Work, frames, matches, Got, answer_of}
use Rattle.normal_list.specs.Book.{own_segments, OwnsCell, Apart, page_of}
use Rattle.normal_list.specs.Demand.{Among, WordsApart, Calls, OwnersAlone}
use Rattle.normal_list.proofs.Theorem.{owners_alone}

-- whole numbers by their bit patterns
abbrev one : ℕ
one = 0x3ff0_0000_0000_0000

abbrev two : ℕ
two = 0x4000_0000_0000_0000

abbrev three : ℕ
three = 0x4008_0000_0000_0000

abbrev four : ℕ
four = 0x4010_0000_0000_0000

abbrev five : ℕ
five = 0x4014_0000_0000_0000

abbrev six : ℕ
six = 0x4018_0000_0000_0000

abbrev eight : ℕ
eight = 0x4020_0000_0000_0000

abbrev nine : ℕ
nine = 0x4022_0000_0000_0000

abbrev sixteen : ℕ
sixteen = 0x4030_0000_0000_0000

abbrev minus16 : ℕ
minus16 = 0xc030_0000_0000_0000

abbrev eleven : ℕ
eleven = 0x4026_0000_0000_0000

abbrev eighteen : ℕ
eighteen = 0x4032_0000_0000_0000

abbrev twenty_four : ℕ
twenty_four = 0x4038_0000_0000_0000

abbrev thirty_two : ℕ
thirty_two = 0x4040_0000_0000_0000

abbrev thirty_four : ℕ
thirty_four = 0x4041_0000_0000_0000

abbrev minus48 : ℕ
minus48 = 0xc048_0000_0000_0000

abbrev sixty_four : ℕ
sixty_four = 0x4050_0000_0000_0000

abbrev seventy_two : ℕ
seventy_two = 0x4052_0000_0000_0000

abbrev ninety_six : ℕ
ninety_six = 0x4058_0000_0000_0000

abbrev one_oh_four : ℕ
one_oh_four = 0x405a_0000_0000_0000

abbrev one_thirty_six : ℕ
one_thirty_six = 0x4061_0000_0000_0000

abbrev two_seventy_two : ℕ
two_seventy_two = 0x4071_0000_0000_0000

abbrev two_ninety_six : ℕ
two_ninety_six = 0x4072_8000_0000_0000

abbrev numbers : List ℕ → List Float
numbers ps = map (of_bits binary64) ps

-- four points about (1, 1, 0), two about (4, 0, 0), and a fixed set of two about (2, 0, 0)
abbrev square : List ℕ
square = four ∷ one ∷ one ∷ 0 ∷ four ∷ 0 ∷ 0 ∷ 0 ∷ four ∷ 0 ∷ 0 ∷ 0 ∷ 0 ∷ []

abbrev pair : List ℕ
pair = two ∷ four ∷ 0 ∷ 0 ∷ two ∷ 0 ∷ 0 ∷ 0 ∷ 0 ∷ 0 ∷ 0 ∷ 0 ∷ 0 ∷ []

abbrev known : List ℕ
known = two ∷ two ∷ 0 ∷ 0 ∷ six ∷ 0 ∷ 0 ∷ 0 ∷ 0 ∷ 0 ∷ 0 ∷ 0 ∷ 0 ∷ []

-- Two actions that leave points where they are. Of the first `origin` has (3, 0, 0) in column 0, the first of `axes` (1, 0, 0) in column 0, and the
-- second (1, 0, 0) in column 1; of the other `origin` has (1, 0, 0) in column 1 and the first of `axes` (1, 0, 0) in column 0.
abbrev place : List ℕ
place = one ∷ 0 ∷ 0 ∷ 0 ∷ one ∷ 0 ∷ 0 ∷ 0 ∷ one ∷ 0 ∷ 0 ∷ 0 ∷ []

abbrev staying : List ℕ
staying = place ++ (three ∷ replicate 26 0) ++ (one ∷ replicate 26 0) ++ (0 ∷ 0 ∷ 0 ∷ one ∷ replicate 23 0) ++ replicate 27 0

abbrev resting : List ℕ
resting = place ++ (0 ∷ 0 ∷ 0 ∷ one ∷ replicate 23 0) ++ (one ∷ replicate 26 0) ++ replicate 54 0

-- eigenvalues 0, 1, 2 with the unit axes; and three that are equal
abbrev upright : List ℕ
upright = 0 ∷ one ∷ two ∷ one ∷ 0 ∷ 0 ∷ 0 ∷ one ∷ 0 ∷ 0 ∷ 0 ∷ one ∷ []

abbrev round : List ℕ
round = replicate 12 0

-- frames with sigma 0.5
abbrev seen_from : ℕ → List ℕ → List ℕ → List ℕ → List ℕ → List ℕ → FramesWork
seen_from dof fs fixed xs decomposition map = record {
  dof = dof;
  frames = numbers fs;
  fixed = numbers fixed;
  sigma = of_bits binary64 0x3fe0_0000_0000_0000;
  actions = numbers xs;
  decomposition = decomposition;
  map = map;
}

abbrev past : Work
past = frames (without (seen_from 2 (square ++ pair) [] (staying ++ resting) upright (0 ∷ 11 ∷ [])))

abbrev seen : Work
seen = frames (without (seen_from 2 (square ++ pair) known (staying ++ resting) upright (0 ∷ 1 ∷ [])))

-- the points (0, 2, 0) and (0, 0, 0) under the normal (1, 0, 0), with offsets 1 and 2 and sigma 1
abbrev matched_at : List ℕ → map_planes.Work
matched_at map = record {
  dof = 2;
  matches = numbers (0 ∷ two ∷ 0 ∷ one ∷ 0 ∷ 0 ∷ one ∷ one ∷ 0 ∷ 0 ∷ 0 ∷ one ∷ 0 ∷ 0 ∷ two ∷ one ∷ []);
  action = numbers staying;
  map = map;
}

abbrev matched : Work
matched = matches (without (matched_at (3 ∷ [])))

abbrev flat : Work
flat = frames (without (seen_from 1 square [] staying round (5 ∷ [])))

abbrev nowhere : Work
nowhere = frames (without (seen_from 1 square [] staying upright []))

-- T = (1, 2)ᵀ of the second frame, and none of the first: its 81 numbers are not read
abbrev narrowed : Work
narrowed = frames (record {
  work = seen_from 2 (square ++ pair) known (staying ++ resting) upright (10 ∷ 6 ∷ []);
  shapes = NO_TRANSFORM ∷ NO_TRANSFORM ∷ 2 ∷ 1 ∷ [];
  transforms = numbers (replicate 81 three ++ one ∷ two ∷ replicate 79 three);
})

-- T has the columns (1, 0), (0, 1) and (1, 1)
abbrev widened : Work
widened = matches (record {
  work = matched_at (7 ∷ []);
  shapes = 2 ∷ 3 ∷ [];
  transforms = numbers ((one ∷ 0 ∷ 0 ∷ one ∷ one ∷ one ∷ []) ++ replicate 75 three);
})

abbrev misshapen : Work
misshapen = matches (record {
  work = matched_at (0 ∷ 0 ∷ []);
  shapes = NO_TRANSFORM ∷ NO_TRANSFORM ∷ 3 ∷ 1 ∷ [];
  transforms = numbers (replicate 162 one);
})

-- the list's own inputs, and the calls with what they returned
abbrev works_of : List Work
works_of = past ∷ seen ∷ matched ∷ flat ∷ nowhere ∷ narrowed ∷ widened ∷ misshapen ∷ []

abbrev list : Got → Got → Got → Got → Got → Got → Got → Got → List (Made Work Got)
list r₁ r₂ r₃ r₄ r₅ r₆ r₇ r₈ =
    record { work = past; got = r₁ } ∷
    record { work = seen; got = r₂ } ∷
    record { work = matched; got = r₃ } ∷
    record { work = flat; got = r₄ } ∷
    record { work = nowhere; got = r₅ } ∷
    record { work = narrowed; got = r₆ } ∷
    record { work = widened; got = r₇ } ∷
    record { work = misshapen; got = r₈ } ∷ []

-- what cell (i, j) of the Hessian and cell i of the gradient hold
abbrev cell : List Float → ℕ → ℕ → Float
cell h i j = get_or h (cell_of 12 i j) nan

abbrev row : List Float → ℕ → Float
row g i = get_or g i nan

-- what the list has done, of any first content
pub record Done (r₁ r₂ r₃ r₄ r₅ r₆ r₇ r₈ : Got) (h g h' g' : List Float) : Type 0 where
  pub past-refused : answer_of r₁ ≡ refusal 10
  -- The plane is x = 2. The first frame has along -1, D = (1, 0; 0, 1; 0, 0) and m = (4, 1), the second along 2, D = (1, 0; 0, 0; 0, 0) and m = (4, 1); they cost
  -- 32 and 40, and the fixed set 24
  pub seen_costs : answer_of r₂ ≡ cost (of_bits binary64 ninety_six)
  -- on the diagonal, and off it inside a block
  pub first_adds : cell h' 0 0 ≡ cell h 0 0 ⊕ of_bits binary64 two_seventy_two
  pub first_adds_beside : cell h' 0 1 ≡ cell h 0 1 ⊕ of_bits binary64 sixty_four
  pub second_adds_beside : cell h' 2 1 ≡ cell h 2 1 ⊕ of_bits binary64 thirty_two
  pub second_adds : cell h' 2 2 ≡ cell h 2 2 ⊕ of_bits binary64 eight
  -- where both frames are, the second after the first, each sum rounded
  pub both-add : cell h' 1 1 ≡ cell h 1 1 ⊕ of_bits binary64 thirty_two ⊕ of_bits binary64 one_thirty_six
  pub first_pulls : row g' 0 ≡ row g 0 ⊕ of_bits binary64 minus48
  pub both_pull : row g' 1 ≡ row g 1 ⊕ of_bits binary64 minus16 ⊕ of_bits binary64 seventy_two
  pub second_pulls : row g' 2 ≡ row g 2 ⊕ of_bits binary64 sixteen
  -- rows 0 and 2 are both of this call, and not of one frame
  pub across_frames : cell h' 0 2 ≡ cell h 0 2
  -- the matches have rows (3, 2) and (3, 0), and residuals 1 and 2
  pub matched_costs : answer_of r₃ ≡ cost (of_bits binary64 five)
  pub matched_adds : cell h' 3 3 ≡ cell h 3 3 ⊕ of_bits binary64 eighteen
  pub matched_adds_beside : cell h' 4 3 ≡ cell h 4 3 ⊕ of_bits binary64 six
  pub matched_adds_last : cell h' 4 4 ≡ cell h 4 4 ⊕ of_bits binary64 four
  pub matched_pulls : row g' 3 ≡ row g 3 ⊕ of_bits binary64 nine
  pub matched_pulls_last : row g' 4 ≡ row g 4 ⊕ of_bits binary64 two
  -- the segments of two calls touch, and no cell is of both
  pub across_calls : cell h' 2 3 ≡ cell h 2 3
  -- without plane the cost is +0, and the cells are kept
  pub flat_costs : answer_of r₄ ≡ cost zero_f
  pub flat_keeps : cell h' 5 5 ≡ cell h 5 5
  pub flat-keeps-row : row g' 5 ≡ row g 5
  -- a frame that goes nowhere costs
  pub nowhere_costs : answer_of r₅ ≡ cost (of_bits binary64 sixteen)
  -- Of the second frame M has the columns (136, 32) and (32, 8), so that Tᵀ-as-M = (200, 48), Tᵀ·M·T = 296 and Tᵀ·v = 104: one row and no second
  pub narrowed_costs : answer_of r₆ ≡ cost (of_bits binary64 ninety_six)
  pub narrowed_adds : cell h' 6 6 ≡ cell h 6 6 ⊕ of_bits binary64 two_ninety_six
  pub narrowed_pulls : row g' 6 ≡ row g 6 ⊕ of_bits binary64 one_oh_four
  pub narrowed_ends : cell h' 6 7 ≡ cell h 6 7
  pub untransformed_adds : cell h' 10 10 ≡ cell h 10 10 ⊕ of_bits binary64 two_seventy_two
  pub untransformed_adds_beside : cell h' 11 10 ≡ cell h 11 10 ⊕ of_bits binary64 sixty_four
  pub untransformed_pulls : row g' 11 ≡ row g 11 ⊕ of_bits binary64 minus16
  -- M has the columns (18, 6) and (6, 4), so that Tᵀ-as-M has the rows (18, 6), (6, 4) and (24, 10)
  pub widened_costs : answer_of r₇ ≡ cost (of_bits binary64 five)
  pub widened_adds : cell h' 7 9 ≡ cell h 7 9 ⊕ of_bits binary64 twenty_four
  pub widened_adds_last : cell h' 9 9 ≡ cell h 9 9 ⊕ of_bits binary64 thirty_four
  pub widened_pulls : row g' 9 ≡ row g 9 ⊕ of_bits binary64 eleven
  pub misshapen-refused : answer_of r₈ ≡ refusal 14

pub apart : Apart 144 12 works_of
unfolding own_segments frame_segment transformed_frames_refusal bad_lengths bad_records bad_count bad_target bad_beside finite_above bad_words bad_word_at bad_word somewhere some_misfit misfit_at misfit some_exceeds exceeds_at exceeds width_at shape_at shape_of lookup word_at place_of upto transformed_matches_refusal bad_matches reasons_at bad_point bad_sigma all_finite of_bits add mul sub div neg lt le
apart = all_apart_lem (own_segments 144 12) works_of refl

-- and by words and shapes alone, two of them: the frames of `narrowed` have rows 10 and 11, and row 6, the match list rows 7 to 9
apart_at : (q width o p i : ℕ) → Some q ≡ Some o → Some 7 ≡ Some p → Among o width i → Among p 3 i → (q + width ≤ 7) ⊎ (10 ≤ q) → ⊥
apart_at q width o p i at at' a b h =
    let e : q ≡ o = cc in
    let f : 7 ≡ p = cc in
    ⊎_elim (λ l. omega (arith, a.0, a.1, b.0, b.1)) (λ l. omega (arith, a.0, a.1, b.0, b.1)) h

pub words : WordsApart narrowed widened
unfolding lookup word_at place_of width_at shape_at shape_of
words zero zero o p i h k at at' a b = apart_at 10 2 o p i at at' a b (inr (omega arith))
words (suc zero) zero o p i h k at at' a b = apart_at 6 1 o p i at at' a b (inl (omega arith))
words (suc (suc x)) zero o p i h k at at' a b = absurd (omega arith)
words x (suc l) o p i h k at at' a b = absurd (omega arith)

-- no call has rows 0 and 2 in one segment, nor rows 2 and 3
across_frames_none : Every (λ w. OwnsCell 144 12 w 0 2 → ⊥) works_of
unfolding own_segments frame_segment transformed_frames_refusal bad_lengths bad_records bad_count bad_target bad_beside finite_above bad_words bad_word_at bad_word somewhere some_misfit misfit_at misfit some_exceeds exceeds_at exceeds width_at shape_at shape_of lookup word_at place_of upto transformed_matches_refusal bad_matches reasons_at bad_point bad_sigma all_finite of_bits add mul sub div neg lt le
across_frames_none = ((λ p. p), (⊎_elim (λ p. omega arith) (⊎_elim (λ p. omega arith) (λ p. p)), (⊎_elim (λ p. omega arith) (λ p. p), (⊎_elim (λ p. omega arith) (λ p. p), ((λ p. p), (⊎_elim (λ p. omega arith) (⊎_elim (λ p. omega arith) (λ p. p)), (⊎_elim (λ p. omega arith) (λ p. p), ((λ p. p), tt))))))))

across_calls_none : Every (λ w. OwnsCell 144 12 w 2 3 → ⊥) works_of
unfolding own_segments frame_segment transformed_frames_refusal bad_lengths bad_records bad_count bad_target bad_beside finite_above bad_words bad_word_at bad_word somewhere some_misfit misfit_at misfit some_exceeds exceeds_at exceeds width_at shape_at shape_of lookup word_at place_of upto transformed_matches_refusal bad_matches reasons_at bad_point bad_sigma all_finite of_bits add mul sub div neg lt le
across_calls_none = ((λ p. p), (⊎_elim (λ p. omega arith) (⊎_elim (λ p. omega arith) (λ p. p)), (⊎_elim (λ p. omega arith) (λ p. p), (⊎_elim (λ p. omega arith) (λ p. p), ((λ p. p), (⊎_elim (λ p. omega arith) (⊎_elim (λ p. omega arith) (λ p. p)), (⊎_elim (λ p. omega arith) (λ p. p), ((λ p. p), tt))))))))

-- nor rows 6 and 7, which are rows of two calls
narrowed_ends_none : Every (λ w. OwnsCell 144 12 w 6 7 → ⊥) works_of
unfolding own_segments frame_segment transformed_frames_refusal bad_lengths bad_records bad_count bad_target bad_beside finite_above bad_words bad_word_at bad_word somewhere some_misfit misfit_at misfit some_exceeds exceeds_at exceeds width_at shape_at shape_of lookup word_at place_of upto transformed_matches_refusal bad_matches reasons_at bad_point bad_sigma all_finite of_bits add mul sub div neg lt le
narrowed_ends_none = ((λ p. p), (⊎_elim (λ p. omega arith) (⊎_elim (λ p. omega arith) (λ p. p)), (⊎_elim (λ p. omega arith) (λ p. p), (⊎_elim (λ p. omega arith) (λ p. p), ((λ p. p), (⊎_elim (λ p. omega arith) (⊎_elim (λ p. omega arith) (λ p. p)), (⊎_elim (λ p. omega arith) (λ p. p), ((λ p. p), tt))))))))

is_seen : In seen works_of
is_seen = inr (inl refl)

is_matched : In matched works_of
is_matched = inr (inr (inl refl))

is_flat : In flat works_of
is_flat = inr (inr (inr (inl refl)))

is_narrowed : In narrowed works_of
is_narrowed = inr (inr (inr (inr (inr (inl refl)))))

is_widened : In widened works_of
is_widened = inr (inr (inr (inr (inr (inr (inl refl))))))

module _ (r₁ r₂ r₃ r₄ r₅ r₆ r₇ r₈ : Got) (h g h' g' : List Float) (lh : length h ≡ 144) (lg : length g ≡ 12) (calls : Calls h g (list r₁ r₂ r₃ r₄ r₅ r₆ r₇ r₈) h' g') where
  settled : OwnersAlone 144 12 h g (list r₁ r₂ r₃ r₄ r₅ r₆ r₇ r₈) h' g'
  settled = rw (lh, lg) at (owners_alone h g (list r₁ r₂ r₃ r₄ r₅ r₆ r₇ r₈) h' g' calls (rw (lh, lg)) (rw (lh, lg) apart))

  pub worked : Done r₁ r₂ r₃ r₄ r₅ r₆ r₇ r₈ h g h' g'
  unfolding own_segments frame_segment transformed_frames_refusal bad_lengths bad_records bad_count bad_target bad_beside finite_above bad_words bad_word_at bad_word somewhere some_misfit misfit_at misfit some_exceeds exceeds_at exceeds width_at shape_at shape_of lookup word_at place_of upto transformed_matches_refusal bad_matches reasons_at bad_point bad_sigma all_finite of_bits add mul sub div neg lt le fit_of smallest_axis frames_plane at_least_one absolute rising_of order_of before fit_mean weighted total count_at weighted_at record_of page_of hessian_cell gradient_cell frames_cost cost_at frame_cost fixed_cost cost_of scatter_on weight_of block_entry vector_entry pulled_entry normal_row combined shifted list_cost list_block list_vector by_groups group_sum group_size cost_term block_term vector_term residual_at row_at entry_from left_product transformed_block transformed_vector
  worked = record {
    past-refused = settled.booked.answers _ (inl refl);
    seen_costs = settled.booked.answers _ (inr (inl refl));
    first_adds = settled.hessian 0 0 (omega arith) (omega arith) seen is_seen (inl ((omega arith, omega arith), (omega arith, omega arith)));
    first_adds_beside = settled.hessian 0 1 (omega arith) (omega arith) seen is_seen (inl ((omega arith, omega arith), (omega arith, omega arith)));
    second_adds_beside = settled.hessian 2 1 (omega arith) (omega arith) seen is_seen (inr (inl ((omega arith, omega arith), (omega arith, omega arith))));
    second_adds = settled.hessian 2 2 (omega arith) (omega arith) seen is_seen (inr (inl ((omega arith, omega arith), (omega arith, omega arith))));
    both-add = settled.hessian 1 1 (omega arith) (omega arith) seen is_seen (inl ((omega arith, omega arith), (omega arith, omega arith)));
    first_pulls = settled.gradient 0 (omega arith) seen is_seen (inl (omega arith, omega arith));
    both_pull = settled.gradient 1 (omega arith) seen is_seen (inl (omega arith, omega arith));
    second_pulls = settled.gradient 2 (omega arith) seen is_seen (inr (inl (omega arith, omega arith)));
    across_frames = settled.booked.hessian_kept 0 2 (omega arith) (omega arith) (every_in _ works_of across_frames_none);
    matched_costs = settled.booked.answers _ (inr (inr (inl refl)));
    matched_adds = settled.hessian 3 3 (omega arith) (omega arith) matched is_matched (inl ((omega arith, omega arith), (omega arith, omega arith)));
    matched_adds_beside = settled.hessian 4 3 (omega arith) (omega arith) matched is_matched (inl ((omega arith, omega arith), (omega arith, omega arith)));
    matched_adds_last = settled.hessian 4 4 (omega arith) (omega arith) matched is_matched (inl ((omega arith, omega arith), (omega arith, omega arith)));
    matched_pulls = settled.gradient 3 (omega arith) matched is_matched (inl (omega arith, omega arith));
    matched_pulls_last = settled.gradient 4 (omega arith) matched is_matched (inl (omega arith, omega arith));
    across_calls = settled.booked.hessian_kept 2 3 (omega arith) (omega arith) (every_in _ works_of across_calls_none);
    flat_costs = settled.booked.answers _ (inr (inr (inr (inl refl))));
    flat_keeps = settled.hessian 5 5 (omega arith) (omega arith) flat is_flat (inl ((omega arith, omega arith), (omega arith, omega arith)));
    flat-keeps-row = settled.gradient 5 (omega arith) flat is_flat (inl (omega arith, omega arith));
    nowhere_costs = settled.booked.answers _ (inr (inr (inr (inr (inl refl)))));
    narrowed_costs = settled.booked.answers _ (inr (inr (inr (inr (inr (inl refl))))));
    narrowed_adds = settled.hessian 6 6 (omega arith) (omega arith) narrowed is_narrowed (inr (inl ((omega arith, omega arith), (omega arith, omega arith))));
    narrowed_pulls = settled.gradient 6 (omega arith) narrowed is_narrowed (inr (inl (omega arith, omega arith)));
    narrowed_ends = settled.booked.hessian_kept 6 7 (omega arith) (omega arith) (every_in _ works_of narrowed_ends_none);
    untransformed_adds = settled.hessian 10 10 (omega arith) (omega arith) narrowed is_narrowed (inl ((omega arith, omega arith), (omega arith, omega arith)));
    untransformed_adds_beside = settled.hessian 11 10 (omega arith) (omega arith) narrowed is_narrowed (inl ((omega arith, omega arith), (omega arith, omega arith)));
    untransformed_pulls = settled.gradient 11 (omega arith) narrowed is_narrowed (inl (omega arith, omega arith));
    widened_costs = settled.booked.answers _ (inr (inr (inr (inr (inr (inr (inl refl)))))));
    widened_adds = settled.hessian 7 9 (omega arith) (omega arith) widened is_widened (inl ((omega arith, omega arith), (omega arith, omega arith)));
    widened_adds_last = settled.hessian 9 9 (omega arith) (omega arith) widened is_widened (inl ((omega arith, omega arith), (omega arith, omega arith)));
    widened_pulls = settled.gradient 9 (omega arith) widened is_widened (inl (omega arith, omega arith));
    misshapen-refused = settled.booked.answers _ (inr (inr (inr (inr (inr (inr (inr (inl refl))))))));
  }
