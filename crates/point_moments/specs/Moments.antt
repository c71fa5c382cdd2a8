-- The moments of a set of points and what is worked out of them, entry by entry. Definitions only.
use Rattle.std.specs.Prelude.{ℕ, zero, suc, ◌/◌, ◌%◌, List, [], ◌∷◌, ◌++◌, not, ◌||◌, eqb, ltb, length, Float}
use Rattle.std.specs.Float.{binary64}
use Rattle.std.specs.Float.Ieee.{of_bits}
use Rattle.sums.specs.Sum.{◌⊕◌, ◌⊗◌, zero_f, tab, grid, at, column}
use Rattle.moment_matrices.specs.Matrices.{turned, moved_outer}
use Rattle.lists.specs.Part.{◌!◌, part}
use Rattle.refusals.specs.Refusal.{Reason, ◌when◌}
use Rattle.point_moments.specs.declared.PointMoments.{PointMoments}

-- how many numbers a record of moments is
abbrev pub MOMENTS : ℕ
MOMENTS = 13

-- count at 0, sum at 1..3, outer(r,c) at 4 + 3c + r
abbrev pub moments_of : List Float → PointMoments
moments_of l = record { count = l ! 0; sum = part 3 l 1; outer = part 9 l 4 }

abbrev pub moments_list : PointMoments → List Float
moments_list m = m.count ∷ part 3 m.sum 0 ++ part 9 m.outer 0

-- 1, by its bits
abbrev pub one : Float
one = of_bits binary64 0x3ff0_0000_0000_0000

-- no points: thirteen zeros
abbrev pub empty : PointMoments
empty = record { count = zero_f; sum = tab 3 (λ r. zero_f); outer = tab 9 (λ k. zero_f) }

-- with the point p: count + 1, sum_r + p_r, outer(r,c) + p_r·p_c
unfoldable pub with_point : PointMoments → List Float → PointMoments
with_point m p = record {
  count = m.count ⊕ one;
  sum = tab 3 (λ r. m.sum ! r ⊕ p ! r);
  outer = grid 3 3 (λ r c. at 3 m.outer r c ⊕ p ! r ⊗ p ! c);
}

-- of two sets together: thirteen sums
unfoldable pub merged : PointMoments → PointMoments → PointMoments
merged m n = record {
  count = m.count ⊕ n.count;
  sum = tab 3 (λ r. m.sum ! r ⊕ n.sum ! r);
  outer = tab 9 (λ k. m.outer ! k ⊕ n.outer ! k);
}

-- of the points A·p + b: the sum is A·sum + b·count
unfoldable pub transformed : PointMoments → List Float → List Float → PointMoments
transformed m a b =
    let t = turned a m.sum in
    record {
      count = m.count;
      sum = tab 3 (λ r. t ! r ⊕ b ! r ⊗ m.count);
      outer = moved_outer m.outer a t b m.count;
    }

-- of the first n points of a list, three numbers each, pushed in order from the empty set
unfoldable pub of_points : ℕ → List Float → PointMoments
of_points zero p = empty
of_points (suc n) p = with_point (of_points n p) (column 3 p n)

-- the most points of a call
abbrev pub MOST_POINTS : ℕ
MOST_POINTS = 65536

-- a list of points is whole points of three numbers, and not too many
unfoldable pub point_reasons : List Float → List Reason
point_reasons p = 3 when (not (eqb (length p % 3) 0) || ltb MOST_POINTS (length p / 3)) ∷ []
