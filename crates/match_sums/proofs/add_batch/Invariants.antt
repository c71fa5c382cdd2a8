use mathlib.Core.Path.{◌≡◌}
use lib.ListN.{length}
use Rattle.sums.specs.Sum.{sum_from}
use Rattle.match_sums.specs.Cells.{Summed}
use Rattle.match_sums.specs.Batch.{batch_cost, batch_block, batch_vector}
use Rattle.match_sums.proofs.add_batch.Given as goal

abbrev pub invariant-loop-k : goal.invariant-loop-k
invariant-loop-k g l =
    (length l.u.block ≡ 81) × (length l.u.vector ≡ 9) × (l.sum ≡ sum_from l.cost l.k (batch_cost l.b.residuals)) × Summed g.row.W l.k (batch_block l.m.rows.now l.m.list.now l.b.from l.b.infos) (batch_vector l.m.rows.now l.m.list.now l.b.from l.b.infos l.b.residuals) l.initial.u.block l.initial.u.vector l.u.block l.u.vector
