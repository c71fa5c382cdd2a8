-- What a batch of matches adds by informations and residuals that are worked out before: definitions, and the laws that it adds what the
-- list's terms say. t is the action's derivative by rows. Assumes nothing.
use Rattle.std.specs.Prelude.{ℕ, ◌+◌, ◌<◌, ◌≤◌, ◌≡◌, List, Float}
use Rattle.std.proofs.Common.{arith}
use Rattle.sums.specs.Sum.{◌⊗◌, sum_from}
use Rattle.sums.specs.Laws.{sum_from-same}
use Rattle.sums.specs.Fill.{First}
use Rattle.lists.specs.Part.{◌!◌}
use Rattle.match_rows.specs.Row.{residual_at, information_at, row_at}
use Rattle.match_rows.specs.ByRows.{by_rows, row_by_at, row_is}
use Rattle.match_sums.specs.Groups.{cost_term, block_term, vector_term}
use Rattle.match_sums.specs.Cells.{Summed}
use Rattle.match_sums.specs.Laws.{summed_same}

-- what match k of a batch from match `from` on adds to the cost, to the block and to the vector: r·r, row_i·row_j, row_i·r
unfoldable pub batch_cost : List Float → ℕ → Float
batch_cost rs k = rs ! k ⊗ rs ! k

unfoldable pub batch_block : List Float → List Float → ℕ → List Float → ℕ → ℕ → ℕ → Float
batch_block t ms from infos i j k = row_by_at t ms (from + k) (infos ! k) i ⊗ row_by_at t ms (from + k) (infos ! k) j

unfoldable pub batch_vector : List Float → List Float → ℕ → List Float → List Float → ℕ → ℕ → Float
batch_vector t ms from infos rs i k = row_by_at t ms (from + k) (infos ! k) i ⊗ rs ! k

-- ---- laws: the batch's residuals and informations are those of the list
pub batch_cost_lem : (x ms : List Float) (from size : ℕ) (rs : List Float) (sum : Float) → First size rs (λ k. residual_at x ms (from + k)) → sum_from sum size (batch_cost rs) ≡ sum_from sum size (λ k. cost_term x ms (from + k))
unfolding batch_cost cost_term
batch_cost_lem x ms from size rs sum r = sum_from-same sum size _ _ (λ k l. cc (r k l))

pub batch_summed : (x t ms : List Float) (dof from size : ℕ) (infos rs h g h' g' : List Float) → t ≡ by_rows x → dof ≤ 9 → First size infos (λ k. information_at ms (from + k)) → First size rs (λ k. residual_at x ms (from + k)) → Summed dof size (batch_block t ms from infos) (batch_vector t ms from infos rs) h g h' g' → Summed dof size (λ i j k. block_term x ms i j (from + k)) (λ i k. vector_term x ms i (from + k)) h g h' g'
unfolding batch_block batch_vector block_term vector_term
batch_summed x t ms dof from size infos rs h g h' g' e w is r s =
    summed_same dof size _ _ _ _ h g h' g' (λ i j k l m p. cc (row i k (omega arith) p, row j k m p)) (λ i k l p. cc (row i k l p, r k p)) s
  where
    row : (c k : ℕ) → c < dof → k < size → row_by_at t ms (from + k) (infos ! k) c ≡ row_at x ms (from + k) c
    row c k l p = row_is x t ms (from + k) (infos ! k) dof c e (is k p) w l
