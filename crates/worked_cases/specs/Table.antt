-- Document 01's worked cases that are marked to be proved: what the definitions give, beside what the paper says. Definitions only.
use Rattle.std.specs.Prelude.{Bool, true, false, ◌&&◌, List, [], ◌∷◌, ◌++◌, map, ℕ, zero, suc, ◌/◌, eqb, length, Option, Some, None, Float}
use Rattle.std.specs.Float.{binary64}
use Rattle.std.specs.Float.Ieee.{of_bits, to_bits}
use Rattle.lists.specs.Part.{◌!◌, part}
use Rattle.point_moments.specs.Moments.{moments_list, of_points, transformed}
use Rattle.point_moments.specs.Scatter.{mean_and_scatter}
use Rattle.point_moments.specs.Plane.{plane_of}
use Rattle.plane.specs.declared.Plane.{Plane}
use Rattle.plane_fit.specs.Axis.{smallest_axis}
use Rattle.frame_sets.specs.Sets.{points}
use Rattle.plane_moments.specs.Build.{build_refusal}
use Rattle.point_moments.specs.declared.PointMoments.{PointMoments}
use Rattle.point_moments.specs.declared.plane.MomentsPlane.{MomentsPlane}
use Rattle.point_moments.specs.declared.scatter.MeanAndScatter.{MeanAndScatter}
use Rattle.square_root.specs.Computed.{square_root}
use Rattle.total_order.specs.declared.Order.{Order}
use Rattle.total_order.specs.Three.{order_of}

-- a case is a list of whole numbers; an f64 stands there by its bit pattern
pub record Case : Type 0 where
  pub found : List ℕ
  pub paper : List ℕ

abbrev pub same : List ℕ → List ℕ → Bool
same [] [] = true
same [] (b ∷ m) = false
same (a ∷ l) [] = false
same (a ∷ l) (b ∷ m) = eqb a b && same l m

abbrev pub every : List Case → Bool
every [] = true
every (c ∷ cs) = same c.found c.paper && every cs

-- patterns of numbers
abbrev plus_zero : ℕ
plus_zero = 0

abbrev minus_zero : ℕ
minus_zero = 0x8000_0000_0000_0000

abbrev one : ℕ
one = 0x3ff0_0000_0000_0000

abbrev two : ℕ
two = 0x4000_0000_0000_0000

abbrev three : ℕ
three = 0x4008_0000_0000_0000

abbrev four : ℕ
four = 0x4010_0000_0000_0000

abbrev five : ℕ
five = 0x4014_0000_0000_0000

abbrev six : ℕ
six = 0x4018_0000_0000_0000

abbrev nine : ℕ
nine = 0x4022_0000_0000_0000

abbrev twenty : ℕ
twenty = 0x4034_0000_0000_0000

abbrev hundred : ℕ
hundred = 0x4059_0000_0000_0000

-- the numbers of patterns, and the patterns of numbers
abbrev numbers : List ℕ → List Float
numbers l = map (of_bits binary64) l

abbrev patterns : List Float → List ℕ
patterns l = map (to_bits binary64) l

abbrev places : Order → List ℕ
places o = o.first ∷ o.second ∷ o.third ∷ []

abbrev root_bits : ℕ → ℕ
root_bits b = to_bits binary64 (square_root (of_bits binary64 b))

-- of a list of points, by their patterns
abbrev moments_from : List ℕ → PointMoments
moments_from p = of_points (length p / 3) (numbers p)

-- 1 for found, 0 for none; of mean and scatter with the twelve numbers
abbrev mean_found : Option MeanAndScatter → List ℕ
mean_found (Some f) = 1 ∷ patterns (part 3 f.mean 0 ++ part 9 f.scatter 0)
mean_found None = 0 ∷ []

abbrev found : Option MomentsPlane → ℕ
found (Some p) = 1
found None = 0

-- (0,0,0), (2,0,0), (0,2,0), (2,2,0)
abbrev corners : List ℕ
corners = 0 ∷ 0 ∷ 0 ∷ two ∷ 0 ∷ 0 ∷ 0 ∷ two ∷ 0 ∷ two ∷ two ∷ 0 ∷ []

-- three by three, by columns
abbrev identity : List ℕ
identity = one ∷ 0 ∷ 0 ∷ 0 ∷ one ∷ 0 ∷ 0 ∷ 0 ∷ one ∷ []

-- a: no points, thirteen zeros
unfoldable pub case_a : Case
case_a = record { found = patterns (moments_list (moments_from [])); paper = 0 ∷ 0 ∷ 0 ∷ 0 ∷ 0 ∷ 0 ∷ 0 ∷ 0 ∷ 0 ∷ 0 ∷ 0 ∷ 0 ∷ 0 ∷ [] }

-- b: (1,2,3)
unfoldable pub case_b : Case
case_b = record {
  found = patterns (moments_list (moments_from (one ∷ two ∷ three ∷ [])));
  paper = one ∷ one ∷ two ∷ three ∷ one ∷ two ∷ three ∷ two ∷ four ∷ six ∷ three ∷ six ∷ nine ∷ [];
}

-- c: the four corners have the mean (1,1,0) and the scatter diagonal 1, 1, 0, rest 0
unfoldable pub case_c : Case
case_c = record {
  found = mean_found (mean_and_scatter (moments_from corners));
  paper = 1 ∷ one ∷ one ∷ 0 ∷ one ∷ 0 ∷ 0 ∷ 0 ∷ one ∷ 0 ∷ 0 ∷ 0 ∷ 0 ∷ [];
}

-- d: c under identity and shift (0,0,5) has the sum (4,4,20), xz 20, zz 100
abbrev shifted : List Float
shifted = moments_list (transformed (moments_from corners) (numbers identity) (numbers (0 ∷ 0 ∷ five ∷ [])))

unfoldable pub case_d : Case
case_d = record {
  found = patterns ((shifted ! 1) ∷ (shifted ! 2) ∷ (shifted ! 3) ∷ (shifted ! 10) ∷ (shifted ! 12) ∷ []);
  paper = four ∷ four ∷ twenty ∷ twenty ∷ hundred ∷ [];
}

-- the fit's answer: 1 and the normal, or 0
abbrev fitted : Option Plane → List ℕ
fitted (Some p) = 1 ∷ patterns (part 3 p.normal 0)
fitted None = 0 ∷ []

-- the fit of a plane through the origin, by three eigenvalues and the unit axes as their vectors
abbrev fit_of : ℕ → ℕ → ℕ → List ℕ
fit_of v0 v1 v2 = fitted (smallest_axis (v0 ∷ v1 ∷ v2 ∷ identity) (numbers (0 ∷ 0 ∷ 0 ∷ [])))

-- e: of the eigenvalues 1, 1, 0 the third vector is chosen, and the equal ones stay in index order
unfoldable pub case_e : Case
case_e = record { found = places (order_of one one plus_zero) ++ fit_of one one plus_zero; paper = 2 ∷ 0 ∷ 1 ∷ 1 ∷ 0 ∷ 0 ∷ one ∷ [] }

-- f: with the eigenvalues 0, 1e-12, 200 and a count of 4, `plane` accepts; the fit has no plane
abbrev narrow : ℕ
narrow = 0x3d71_9799_812d_ea11

abbrev wide : ℕ
wide = 0x4069_0000_0000_0000

unfoldable pub case_f : Case
case_f = record {
  found = found (plane_of (moments_from corners) (plus_zero ∷ narrow ∷ wide ∷ identity)) ∷ fit_of plus_zero narrow wide;
  paper = 1 ∷ 0 ∷ [];
}

-- g: of -0, 0, 1 the -0 sorts first; gap 0, no plane
unfoldable pub case_g : Case
case_g = record { found = places (order_of minus_zero plus_zero one) ++ fit_of minus_zero plus_zero one; paper = 0 ∷ 1 ∷ 2 ∷ 0 ∷ [] }

-- a set of moments with a count, by its pattern, and zeros
abbrev set_of : ℕ → List Float
set_of count = numbers (count ∷ 0 ∷ 0 ∷ 0 ∷ 0 ∷ 0 ∷ 0 ∷ 0 ∷ 0 ∷ 0 ∷ 0 ∷ 0 ∷ 0 ∷ [])

-- a build's answer: 0 and the point total, or the reason to refuse it
abbrev answer : ℕ → Float → List ℕ
answer zero points = 0 ∷ patterns (points ∷ [])
answer (suc k) points = suc k ∷ []

-- of one frame and a fixed set, by the patterns of their counts; outputs of the right lengths
abbrev built_from : ℕ → ℕ → List ℕ
built_from frame fixed = answer (build_refusal 6 (set_of frame) (set_of fixed) (of_bits binary64 one) (set_of 0) (set_of 0)) (points (set_of frame) (set_of fixed))

-- h: one frame of 5, fixed -1: accepted, points 5
unfoldable pub case_h : Case
case_h = record { found = built_from five 0xbff0_0000_0000_0000; paper = 0 ∷ five ∷ [] }

-- i: fixed -3: refusal 5
unfoldable pub case_i : Case
case_i = record { found = built_from five 0xc008_0000_0000_0000; paper = 5 ∷ [] }

-- j: frame 2, fixed 1: accepted; fixed 0.5: refusal 5
unfoldable pub case_j : Case
case_j = record { found = built_from two one ++ built_from two 0x3fe0_0000_0000_0000; paper = 0 ∷ three ∷ 5 ∷ [] }

-- k: the roots of 4, of the least subnormal number and of 2
unfoldable pub case_k : Case
case_k = record {
  found = root_bits four ∷ root_bits 1 ∷ root_bits two ∷ [];
  paper = two ∷ 0x1e60_0000_0000_0000 ∷ 0x3ff6_a09e_667f_3bcd ∷ [];
}

unfoldable pub table : List Case
table = case_a ∷ case_b ∷ case_c ∷ case_d ∷ case_e ∷ case_f ∷ case_g ∷ case_h ∷ case_i ∷ case_j ∷ case_k ∷ []
