-- The sums of a match list as they are handed back: block by columns of nine, of which the first `dof` count. Definitions only.
use Rattle.std.specs.Prelude.{ℕ, ◌<◌, ◌≡◌, List, length, Float}
use Rattle.lists.specs.Part.{◌!◌}
use Rattle.match_sums.specs.Groups.{list_cost, list_block, list_vector}
use Rattle.match_sums.specs.Cells.{cell}
use Rattle.match_sums.specs.declared.MatchSums.{MatchSums}

pub record SumsAre (x ms : List Float) (dof : ℕ) (s : MatchSums) : Type 0 where
  pub cost_is : s.cost ≡ list_cost x ms
  pub block_is : (i j : ℕ) → i < dof → j < dof → cell s.block i j ≡ list_block x ms i j
  pub vector_is : (i : ℕ) → i < dof → s.vector ! i ≡ list_vector x ms i
  pub block_size : length s.block ≡ 81
  pub vector_size : length s.vector ≡ 9
