-- What a match list sums to under an action: each group of 512 matches summed from +0, then the groups' sums from +0. Definitions only.
use Rattle.std.specs.Prelude.{ℕ, ◌+◌, ◌*◌, ◌/◌, ◌-◌, cond, List, leb, length, Float}
use Rattle.sums.specs.Sum.{◌⊗◌, sum_from_zero}
use Rattle.map_plane.specs.Match.{MATCH}
use Rattle.match_rows.specs.Row.{residual_at, row_at}

-- how many matches a group is
abbrev pub GROUP : ℕ
GROUP = 512

-- how many groups n matches make; the last is as long as is left
abbrev pub groups : ℕ → ℕ
groups n = (n + 511) / GROUP

unfoldable pub group_size : ℕ → ℕ → ℕ
group_size n q = cond (leb (q * GROUP + GROUP) n) GROUP (n - q * GROUP)

-- group q of the terms f: Σ₀
unfoldable pub group_sum : ℕ → (ℕ → Float) → ℕ → Float
group_sum n f q = sum_from_zero (group_size n q) (λ k. f (q * GROUP + k))

-- Σ₀ over the groups' sums, in order
unfoldable pub by_groups : ℕ → (ℕ → Float) → Float
by_groups n f = sum_from_zero (groups n) (group_sum n f)

-- what match k adds to the cost, to the block and to the vector: r·r, row_i·row_j, row_i·r
unfoldable pub cost_term : List Float → List Float → ℕ → Float
cost_term x ms k = residual_at x ms k ⊗ residual_at x ms k

unfoldable pub block_term : List Float → List Float → ℕ → ℕ → ℕ → Float
block_term x ms i j k = row_at x ms k i ⊗ row_at x ms k j

unfoldable pub vector_term : List Float → List Float → ℕ → ℕ → Float
vector_term x ms i k = row_at x ms k i ⊗ residual_at x ms k

abbrev pub match_count : List Float → ℕ
match_count ms = length ms / MATCH

-- ---- the list's cost, and the entries of its block and its vector
unfoldable pub list_cost : List Float → List Float → Float
list_cost x ms = by_groups (match_count ms) (cost_term x ms)

unfoldable pub list_block : List Float → List Float → ℕ → ℕ → Float
list_block x ms i j = by_groups (match_count ms) (block_term x ms i j)

unfoldable pub list_vector : List Float → List Float → ℕ → Float
list_vector x ms i = by_groups (match_count ms) (vector_term x ms i)
