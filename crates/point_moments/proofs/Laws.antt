-- What callers may rely on: lists and records are read and written whole, and a count that is not below 3 has a mean. Assumes nothing.
use Prim.Native.Nat.{suc, ◌+◌, ◌*◌, ◌<◌, ◌≤◌}
use mathlib.Core.Path.{◌≡◌, refl, ap}
use mathlib.Core.Bool.{true, false, not}
use mathlib.Core.List.{List, ◌∷◌, ◌++◌}
use native.Mathlib.Omega.{arith}
use lib.ListN.{length}
use lib.Pow.{pow_pos}
use lib.IntN.{ℤ, pos, negsuc}
use lib.Ieee.{Float, nan, inf, fin, up, down, lt, eq, le, of_bits, of_fields, odd}
use borrow.Author.Tests.{ltb-false, le-ltb, ne_eqb}
use Rattle.sums.specs.Sum.{zero_f}
use Rattle.sums.specs.Laws.{tab-get_or}
use Rattle.lists.specs.Part.{part}
use Rattle.point_moments.specs.declared.PointMoments.{PointMoments}
use Rattle.point_moments.specs.declared.scatter.Centred.{Centred}
use Rattle.point_moments.specs.Moments.{MOMENTS, moments_of, moments_list}
use Rattle.point_moments.specs.Scatter.{CENTRED, centred_of, centred_list, has_mean}
use Rattle.point_moments.specs.Plane.{three}

-- a list read into a record and written again
pub moments_back : (l : List Float) → length l ≡ MOMENTS → moments_list (moments_of l) ≡ l
moments_back l e = tab-get_or MOMENTS l e

pub centred_back : (l : List Float) → length l ≡ CENTRED → centred_list (centred_of l) ≡ l
centred_back l e = tab-get_or CENTRED l e

-- A record written to a list and read again. In the logic an array is a list of any length, so the lengths that the code's arrays have are said.
written_read : (x : Float) (three nine : List Float) → length three ≡ 3 → length nine ≡ 9 → let l = x ∷ part 3 three 0 ++ part 9 nine 0 in (part 3 l 1 ≡ three) × (part 9 l 4 ≡ nine)
written_read x three nine h k = (tab-get_or 3 three h, tab-get_or 9 nine k)

pub moments_again : (m : PointMoments) → length m.sum ≡ 3 → length m.outer ≡ 9 → moments_of (moments_list m) ≡ m
moments_again m h k i = let r = written_read m.count m.sum m.outer h k in record { count = m.count; sum = r.0 i; outer = r.1 i }

pub centred_again : (f : Centred) → length f.mean ≡ 3 → length f.scatter ≡ 9 → centred_of (centred_list f) ≡ f
centred_again f h k i = let r = written_read f.count f.mean f.scatter h k in record { count = f.count; mean = r.0 i; scatter = r.1 i }

-- Rust's `plane` asks for the mean after its test of the count, and then there is one
down_pos : (e : ℤ) → 0 < down e
down_pos (pos k) = omega arith
down_pos (negsuc k) = pow_pos (suc k)

above : (x : Float) → lt x three ≡ false → le x zero_f ≡ false
unfolding lt eq le of_bits of_fields odd
above nan h = refl
above (inf false) h = refl
above (inf true) h = h
above (fin false m e) h =
    let g : 3 * down e ≤ m * up e * 1 = ltb-false (m * up e * 1) (3 * down e) h in
    let d : 0 < down e = down_pos e in
    rw (le-ltb (m * up e * 1) (0 * down e) (omega arith), ne_eqb (m * up e * 1) (0 * down e) (λ q. omega arith))
above (fin true m e) h =
    let g : m * up e * 1 + 3 * down e ≤ 0 = ltb-false 0 (m * up e * 1 + 3 * down e) h in
    let d : 0 < down e = down_pos e in
    let z : ⊥ = omega arith in
    absurd z

pub has_mean_lem : (m : PointMoments) → lt m.count three ≡ false → has_mean m ≡ true
has_mean_lem m h = ap not (above m.count h)
