-- Plans: the ways to cut points into sets and to merge the sets, from the empty one. Definitions only.
use Rattle.std.specs.Prelude.{ℕ, zero, suc, ◌≡◌, List, [], ◌∷◌, ◌++◌, map, ℤ, Float}
use Rattle.sums.specs.Sum.{column}
use Rattle.point_moments.specs.declared.PointMoments.{PointMoments}
use Rattle.point_moments.specs.Moments as Moments
use Rattle.counted_moments.specs.Counted.{push_refusal, merge_refusal}
use Rattle.exact_moments.specs.Grid.{Point, whole_point}

pub data Plan : Type 0 where
  empty : Plan
  push : Plan → Point → Plan
  merge : Plan → Plan → Plan

-- the points of a plan, and the same in whole numbers
unfoldable pub points : Plan → List Point
points empty = []
points (push a p) = points a ++ (p ∷ [])
points (merge a b) = points a ++ points b

abbrev pub wholes : Plan → List (List ℤ)
wholes a = map whole_point (points a)

-- what push and merge make of it
unfoldable pub moments : Plan → PointMoments
moments empty = Moments.empty
moments (push a p) = Moments.with_point (moments a) p
moments (merge a b) = Moments.merged (moments a) (moments b)

-- no push and no merge of it is refused
unfoldable pub Accepted : Plan → Type 0
Accepted empty = Unit
Accepted (push a p) = Accepted a × (push_refusal (moments a) p ≡ 0)
Accepted (merge a b) = Accepted a × Accepted b × (merge_refusal (moments a) (moments b) ≡ 0)

-- the first n points of a list, three numbers each, pushed in order
unfoldable pub pushes : ℕ → List Float → Plan
pushes zero l = empty
pushes (suc n) l = push (pushes n l) (column 3 l n)
