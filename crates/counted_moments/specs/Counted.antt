-- Why a push or a merge of moments is turned away, and why the pushes of a list of points are. Definitions only.
use Rattle.std.specs.Prelude.{ℕ, zero, suc, List, [], ◌∷◌, ◌++◌, Float}
use Rattle.sums.specs.Sum.{column}
use Rattle.refusals.specs.Refusal.{Reason, ◌when◌, first_of}
use Rattle.counts.specs.Saturation.{push_saturates, merge_saturates}
use Rattle.point_moments.specs.declared.PointMoments.{PointMoments}
use Rattle.point_moments.specs.Moments.{of_points}

-- a point pushed into a set
unfoldable pub push_reasons : PointMoments → List Float → List Reason
push_reasons m p = 15 when push_saturates m.count ∷ []

-- another set merged into a set
unfoldable pub merge_reasons : PointMoments → PointMoments → List Reason
merge_reasons m n = 15 when merge_saturates m.count n.count ∷ []

-- the first n points of a list, three numbers each, pushed in order into the empty set: the reasons of one push after the other
unfoldable pub pushes_reasons : ℕ → List Float → List Reason
pushes_reasons zero p = []
pushes_reasons (suc n) p = pushes_reasons n p ++ push_reasons (of_points n p) (column 3 p n)

-- the number of the first that applies, or 0
abbrev pub push_refusal : PointMoments → List Float → ℕ
push_refusal m p = first_of (push_reasons m p)

abbrev pub merge_refusal : PointMoments → PointMoments → ℕ
merge_refusal m n = first_of (merge_reasons m n)
