-- What the contract of an accumulating call says: the number that it returns, the cost behind the pointer, and the two slices. Definitions only.
use Rattle.std.specs.Prelude.{ℕ, zero, suc, ◌≡◌, List, Float}
use Rattle.call_lists.specs.Calls.{Answer, refusal, cost, Call, Ran}

-- the answer as it is handed back: the number of a refusal, or 0 and the cost behind the pointer
abbrev pub told : ℕ → Float → Answer
told zero x = cost x
told (suc k) x = refusal (suc k)

-- the call c was made on the slices h and g and a cost x: a refusal leaves the cost as it was
pub record Accumulated (c : Call) (h g : List Float) (x : Float) (r : ℕ) (h' g' : List Float) (x' : Float) : Type 0 where
  pub ran : Ran c h g (told r x') h' g'
  pub kept : (r ≡ 0 → ⊥) → x' ≡ x
