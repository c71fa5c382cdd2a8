-- The target of a factor's blocks: what a frame adds at its place, and blocks that are lent as numbers. Assumes nothing.
use Rattle.std.specs.Prelude.{ℕ, ◌+◌, ◌*◌, List, [], get_or, Float, Option, Some, None}
use Rattle.std.specs.Float.{nan}
use Rattle.terms.specs.Terms.{Term, segment, block}

-- a frame's block of entries e goes to the Hessian of order n at its place; an unmapped frame adds nothing
unfoldable pub hessian_at : ℕ → ℕ → Option ℕ → (ℕ → ℕ → Float) → List Term
hessian_at n width (Some offset) e = block n offset width e
hessian_at n width None e = []

-- its vector to the gradient
unfoldable pub gradient_at : ℕ → Option ℕ → (ℕ → Float) → List Term
gradient_at width (Some offset) v = segment offset width v
gradient_at width None v = []

-- number r of a list, from a place on
unfoldable pub number_from : List Float → ℕ → ℕ → Float
number_from l from r = get_or l (from + r) nan

-- the entry of row r and column c of a block that is lent by columns, `stride` numbers a column
unfoldable pub entry_of : ℕ → List Float → ℕ → ℕ → Float
entry_of stride b r c = number_from b (c * stride) r
