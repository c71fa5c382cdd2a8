-- What a function that makes calls in a row leaves. Definitions only.
use Rattle.std.specs.Prelude.{◌≡◌, List, [], ◌∷◌, Float}
use Rattle.call_lists.specs.Calls.{Made}
use Rattle.normal_list.specs.Work.{Work, Got}
use Rattle.normal_list.specs.Demand.{Calls, Demand3}

-- each call with the cost that stood behind its pointer before: a refused call leaves it as it was
abbrev pub CostsKept : List (Made Work Got) → List Float → Type 0
CostsKept [] xs = Unit
CostsKept (e ∷ es) [] = ⊥
CostsKept (e ∷ es) (x ∷ xs) = ((e.got.number ≡ 0 → ⊥) → e.got.cost ≡ x) × CostsKept es xs

-- each call got the two slices as the one before left them, and so they did what demand 3 says
pub record InARow (h g : List Float) (es : List (Made Work Got)) (costs : List Float) (h' g' : List Float) : Type 0 where
  pub chain : Calls h g es h' g'
  pub demand : Demand3 h g es h' g'
  pub costs_kept : CostsKept es costs
