use Prim.Native.Nat.{◌+◌}
use mathlib.Core.Path.{◌≡◌}
use lib.ListN.{length}
use Rattle.sums.specs.Fill.{First}
use Rattle.match_rows.specs.Row.{residual_at, information_at}
use Rattle.match_sums.proofs.Batch.of.Given as goal

abbrev pub invariant-loop-k : goal.invariant-loop-k
invariant-loop-k l =
    (length l.infos ≡ 16) × (length l.residuals ≡ 16) × First l.k l.infos (λ k. information_at l.m.list.now (l.from + k)) × First l.k l.residuals (λ k. residual_at l.m.action.now l.m.list.now (l.from + k))
