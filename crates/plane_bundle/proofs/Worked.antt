-- Worked cases of a bundle: document 02's own, and four rows of two frames with their cells, without a Jacobian and without a plane. Assumes nothing.
use Prim.Native.Nat.{ℕ}
use mathlib.Core.Path.{◌≡◌, refl}
use mathlib.Core.Bool.{Bool, true, false}
use mathlib.Core.List.{List, [], ◌∷◌, ◌++◌, map}
use lib.ListN.{replicate}
use lib.Ieee.{Float, binary64, of_bits, to_bits, add, sub, neg, mul, div, of_int, lt}
use Rattle.sums.specs.Sum.{zero_f}
use Rattle.validate.specs.Finite.{all_finite, finite_above}
use Rattle.total_order.specs.Three.{order_of, before}
use Rattle.decomposition.specs.Axes.{rising_of}
use Rattle.decomposition.specs.Gaps.{points_plane}
use Rattle.normal_blocks.specs.Somewhere.{somewhere}
use Rattle.map_plane.specs.Linearize.{projected}
use Rattle.bundle_points.specs.Points.{coordinate, coordinate_sum, centroid, difference, spread, scatter, fit_of}
use Rattle.bundle_rows.specs.Rows.{residual_at, total, start, in_frame, frame_cell, jacobian_cell}
use Rattle.plane_bundle.specs.Calls.{bad_points, empty_at, some_empty, too_few, not_finite}
use Rattle.plane_bundle.specs.Fit.{fit_refusal}
use Rattle.plane_bundle.specs.Linearize.{Bundle, bad_rows, linearize_refusal, under_plane, linearized}

-- 0.8, 1, 2, 3, 4 and 5, by their bits
abbrev four_fifths : ℕ
four_fifths = 0x3fe9_9999_9999_999a

abbrev one : ℕ
one = 0x3ff0_0000_0000_0000

abbrev two : ℕ
two = 0x4000_0000_0000_0000

abbrev three : ℕ
three = 0x4008_0000_0000_0000

abbrev four : ℕ
four = 0x4010_0000_0000_0000

abbrev five : ℕ
five = 0x4014_0000_0000_0000

abbrev numbers : List ℕ → List Float
numbers l = map (of_bits binary64) l

abbrev bits : List Float → List ℕ
bits l = map (to_bits binary64) l

-- ---- (0,0,0), (2,0,0), (0,2,0), (2,2,0) and the fixed point (1,1,5)
abbrev corners : List Float
corners = numbers (0 ∷ 0 ∷ 0 ∷ two ∷ 0 ∷ 0 ∷ 0 ∷ two ∷ 0 ∷ two ∷ two ∷ 0 ∷ [])

abbrev above : List Float
above = numbers (one ∷ one ∷ five ∷ [])

-- the centroid is (1,1,1), and the scatter has 0.8, 0.8 and 4 on its diagonal
pub corners_fit : bits (fit_of (corners ++ above)) ≡ one ∷ one ∷ one ∷ four_fifths ∷ 0 ∷ 0 ∷ 0 ∷ four_fifths ∷ 0 ∷ 0 ∷ 0 ∷ four ∷ []
unfolding to_bits of_bits add sub mul div of_int coordinate coordinate_sum centroid difference spread scatter
corners_fit = refl

-- the corners are taken; counts (2, 0) are 4, and with a wrong length 3; counts (1, 1) without fixed points are 5, and (1) with two fixed points is taken; no counts are 2
pub refusals_are : fit_refusal (4 ∷ []) corners above 12 ∷ fit_refusal (2 ∷ 0 ∷ []) (replicate 6 zero_f) [] 12 ∷ fit_refusal (2 ∷ 0 ∷ []) (replicate 5 zero_f) [] 12 ∷ fit_refusal (1 ∷ 1 ∷ []) (replicate 6 zero_f) [] 12 ∷
    fit_refusal (1 ∷ []) (replicate 3 zero_f) (replicate 6 zero_f) 12 ∷ fit_refusal [] [] [] 12 ∷ [] ≡ 0 ∷ 4 ∷ 3 ∷ 5 ∷ 0 ∷ 2 ∷ []
unfolding of_bits all_finite somewhere total bad_points empty_at some_empty too_few not_finite fit_refusal
refusals_are = refl

-- ---- eigenvalues and no vectors: (0, 1e-12, 1) and (0, 9e-13, 1); (0, NaN, 1), sorted 0, 1, NaN; (-NaN, 0, 1), whose gap is a NaN
abbrev plane : ℕ → ℕ → ℕ → Bool
plane a b c = points_plane (rising_of (a ∷ b ∷ c ∷ []))

pub gaps_are : plane 0 0x3d71_9799_812d_ea11 one ∷ plane 0 0x3d6f_aa7a_b552_a552 one ∷ plane 0 0x7ff8_0000_0000_0000 one ∷ plane 0xfff8_0000_0000_0000 0 one ∷ [] ≡ true ∷ false ∷ true ∷ true ∷ []
unfolding points_plane rising_of order_of before of_bits add sub neg lt
gaps_are = refl

-- and the normal is the vector of the NaN
pub nan-normal : map (to_bits binary64) (rising_of (0xfff8_0000_0000_0000 ∷ 0 ∷ one ∷ two ∷ four ∷ five ∷ 0 ∷ 0 ∷ 0 ∷ 0 ∷ 0 ∷ 0 ∷ [])).normal ≡ two ∷ four ∷ five ∷ []
unfolding to_bits of_bits rising_of order_of before
nan-normal = refl

-- ---- Frames of two points and one, (2,6,1), (0,-4,1), then (2,1,1), and the fixed point (0,1,1): the centroid is (1,1,1). Two state columns a point. The normal is
-- (15,-3,7), the vector of the second eigenvalue, and 1 / sigma is 0.1, so that information times the whole projection is not the projection by a scaled normal:
-- of (1,5,0) the first is 0.1·(15 - 15) = 0, and the second is not 0.
abbrev six : ℕ
six = 0x4018_0000_0000_0000

abbrev seven : ℕ
seven = 0x401c_0000_0000_0000

abbrev fifteen : ℕ
fifteen = 0x402e_0000_0000_0000

abbrev minus_one : ℕ
minus_one = 0xbff0_0000_0000_0000

abbrev minus_three : ℕ
minus_three = 0xc008_0000_0000_0000

abbrev minus_four : ℕ
minus_four = 0xc010_0000_0000_0000

-- 10; 0.1·15 = 1.5 and 0.1·3, each rounded once, and their negations
abbrev ten : ℕ
ten = 0x4024_0000_0000_0000

abbrev three_halves : ℕ
three_halves = 0x3ff8_0000_0000_0000

abbrev minus_three_halves : ℕ
minus_three_halves = 0xbff8_0000_0000_0000

abbrev three_tenths : ℕ
three_tenths = 0x3fd3_3333_3333_3334

abbrev minus_three_tenths : ℕ
minus_three_tenths = 0xbfd3_3333_3333_3334

-- by dof, the first coordinate, sigma and the first eigenvalue
abbrev bundle : ℕ → ℕ → ℕ → ℕ → Bundle
bundle dof x sigma value = record {
  dof = dof;
  counts = 2 ∷ 1 ∷ [];
  points = numbers (x ∷ six ∷ one ∷ 0 ∷ minus_four ∷ one ∷ two ∷ one ∷ one ∷ []);
  d_state = numbers (one ∷ 0 ∷ 0 ∷ one ∷ five ∷ 0 ∷ 0 ∷ minus_one ∷ 0 ∷ minus_one ∷ 0 ∷ 0 ∷ two ∷ 0 ∷ 0 ∷ 0 ∷ one ∷ 0 ∷ []);
  fixed = numbers (0 ∷ one ∷ one ∷ []);
  sigma = of_bits binary64 sigma;
  decomposition = value ∷ 0 ∷ five ∷ one ∷ one ∷ one ∷ fifteen ∷ minus_three ∷ seven ∷ two ∷ two ∷ two ∷ [];
}

abbrev small : Bundle
small = bundle 2 two ten one

-- what residuals and Jacobian held before
abbrev ones : ℕ → List Float
ones n = replicate n (of_bits binary64 one)

-- taken, with a Jacobian and without; dof 10 is 1, one cell or one residual too few is 3, sigma 0 is 7, and with a coordinate that is infinite 6
pub linearize_refusals : linearize_refusal small 4 16 ∷ linearize_refusal small 4 0 ∷ linearize_refusal (bundle 10 two ten one) 4 16 ∷ linearize_refusal small 4 15 ∷ linearize_refusal small 3 16 ∷
    linearize_refusal (bundle 2 two 0 one) 4 16 ∷ linearize_refusal (bundle 2 0x7ff0_0000_0000_0000 0 one) 4 16 ∷ [] ≡ 0 ∷ 0 ∷ 1 ∷ 3 ∷ 3 ∷ 7 ∷ 6 ∷ []
unfolding of_bits lt all_finite finite_above somewhere total bad_points empty_at some_empty too_few not_finite bad_rows linearize_refusal
linearize_refusals = refl

pub small-rows : bits (linearized small (ones 4) (ones 16)).0 ≡ 0 ∷ 0 ∷ three_halves ∷ minus_three_halves ∷ []
unfolding to_bits of_bits add sub neg mul div of_int lt rising_of order_of before points_plane coordinate coordinate_sum centroid difference residual_at total under_plane linearized
small-rows = refl

-- two columns of the first frame, two of the second; the fixed point's row is +0
pub small_cells : bits (linearized small (ones 4) (ones 16)).1 ≡
    three_halves ∷ three_tenths ∷ 0 ∷ 0 ∷ 0 ∷ minus_three_halves ∷ 0 ∷ 0 ∷
    0 ∷ 0 ∷ three ∷ 0 ∷ 0 ∷ 0 ∷ minus_three_tenths ∷ 0 ∷ []
unfolding to_bits of_bits add sub neg mul div of_int lt rising_of order_of before points_plane projected total start in_frame frame_cell jacobian_cell under_plane linearized
small_cells = refl

-- a Jacobian that is not wanted, and no plane: with 5e-13 as the first eigenvalue the gap is below 1e-12
pub small-alone : (linearized small (ones 4) []).1 ≡ []
unfolding of_bits add sub neg lt rising_of order_of before points_plane under_plane linearized
small-alone = refl

pub flat-none : linearized (bundle 2 two ten 0x3d61_9799_812d_ea11) (ones 4) (ones 16) ≡ (replicate 4 zero_f, replicate 16 zero_f)
unfolding of_bits add sub neg lt rising_of order_of before points_plane linearized
flat-none = refl
