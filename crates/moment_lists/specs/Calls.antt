-- The calls of a host on moments as lists: why each is refused, and what it leaves where it is not. Definitions only.
use Rattle.std.specs.Prelude.{ℕ, ◌/◌, List, [], ◌∷◌, ◌++◌, Option, Some, None, length, Float}
use Rattle.refusals.specs.Refusal.{◌when◌, first_of, wrong_length, Answered}
use Rattle.lists.specs.Part.{part}
use Rattle.point_moments.specs.Moments.{MOMENTS, moments_of, moments_list, point_reasons, of_points, with_point, merged, transformed}
use Rattle.point_moments.specs.Scatter.{mean_and_scatter}
use Rattle.point_moments.specs.Plane.{plane_of}
use Rattle.counted_moments.specs.Counted.{push_reasons, merge_reasons, pushes_reasons}
use Rattle.decomposition.specs.Axes.{DECOMPOSITION}
use Rattle.point_moments.specs.declared.plane.MomentsPlane.{MomentsPlane}
use Rattle.point_moments.specs.declared.scatter.MeanAndScatter.{MeanAndScatter}

-- Of each call: the number of the reason to refuse it, what it gives, and what a call with the answer r leaves.

-- from_points: the points, three numbers each, and the output; a push that is refused is handed on
unfoldable pub gather_refusal : List Float → List Float → ℕ
gather_refusal p m =
    first_of (3 when wrong_length ((length m, MOMENTS) ∷ []) ∷ point_reasons p ++ pushes_reasons (length p / 3) p)

unfoldable pub gathered : List Float → List Float
gathered p = moments_list (of_points (length p / 3) p)

abbrev pub FromPoints : List Float → List Float → ℕ → List Float → Type 0
FromPoints p m r m' = Answered (gather_refusal p m) r m m' (gathered p)

-- push: the moments, and a point of three numbers
unfoldable pub push_refusal : List Float → List Float → ℕ
push_refusal m p =
    first_of (3 when wrong_length ((length m, MOMENTS) ∷ (length p, 3) ∷ []) ∷ push_reasons (moments_of m) (part 3 p 0))

unfoldable pub pushed : List Float → List Float → List Float
pushed m p = moments_list (with_point (moments_of m) (part 3 p 0))

abbrev pub Pushes : List Float → List Float → ℕ → List Float → Type 0
Pushes m p r m' = Answered (push_refusal m p) r m m' (pushed m p)

-- merge: the moments, and those of another set
unfoldable pub merge_refusal : List Float → List Float → ℕ
merge_refusal m n =
    first_of (3 when wrong_length ((length m, MOMENTS) ∷ (length n, MOMENTS) ∷ []) ∷ merge_reasons (moments_of m) (moments_of n))

unfoldable pub joined : List Float → List Float → List Float
joined m n = moments_list (merged (moments_of m) (moments_of n))

abbrev pub Merges : List Float → List Float → ℕ → List Float → Type 0
Merges m n r m' = Answered (merge_refusal m n) r m m' (joined m n)

-- transformed: the moments, nine numbers of a matrix, three of a shift, and the output
unfoldable pub move_refusal : List Float → List Float → List Float → List Float → ℕ
move_refusal m a b out =
    first_of (3 when wrong_length ((length m, MOMENTS) ∷ (length a, 9) ∷ (length b, 3) ∷ (length out, MOMENTS) ∷ []) ∷ [])

unfoldable pub moved : List Float → List Float → List Float → List Float
moved m a b = moments_list (transformed (moments_of m) (part 9 a 0) (part 3 b 0))

abbrev pub Transforms : List Float → List Float → List Float → List Float → ℕ → List Float → Type 0
Transforms m a b out r out' = Answered (move_refusal m a b out) r out out' (moved m a b)

-- mean_and_scatter: the moments, the output and `found`; the mean, the scatter by columns and 1, or the output as it was and 0
unfoldable pub mean_refusal : List Float → List Float → ℕ
mean_refusal m out = first_of (3 when wrong_length ((length m, MOMENTS) ∷ (length out, 12) ∷ []) ∷ [])

unfoldable pub mean_answer : Option MeanAndScatter → List Float → List Float × ℕ
mean_answer (Some f) out = (part 3 f.mean 0 ++ part 9 f.scatter 0, 1)
mean_answer None out = (out, 0)

abbrev pub FindsMean : List Float → List Float → ℕ → ℕ → List Float → ℕ → Type 0
FindsMean m out found r out' found' =
    Answered (mean_refusal m out) r (out, found) (out', found') (mean_answer (mean_and_scatter (moments_of m)) out)

-- plane: the moments, the decomposition, the output and `found`; normal, offset and the eigenvalues as they rise and 1, or the output as it was and 0
unfoldable pub plane_refusal : List Float → List ℕ → List Float → ℕ
plane_refusal m d out =
    first_of (3 when wrong_length ((length m, MOMENTS) ∷ (length d, DECOMPOSITION) ∷ (length out, 7) ∷ []) ∷ [])

unfoldable pub plane_answer : Option MomentsPlane → List Float → List Float × ℕ
plane_answer (Some p) out = (part 3 p.normal 0 ++ (p.offset ∷ part 3 p.eigenvalues 0), 1)
plane_answer None out = (out, 0)

abbrev pub FindsPlane : List Float → List ℕ → List Float → ℕ → ℕ → List Float → ℕ → Type 0
FindsPlane m d out found r out' found' =
    Answered (plane_refusal m d out) r (out, found) (out', found') (plane_answer (plane_of (moments_of m) d) out)
