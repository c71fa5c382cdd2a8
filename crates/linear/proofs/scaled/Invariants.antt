-- `linear::scaled` fills the result from the front: at turn k its first k numbers are those that it should have.
use Rattle.std.proofs.Common.{◌≡◌, length, get_or}
use Rattle.std.specs.Float.{nan}
use Rattle.sums.specs.Sum.{◌⊗◌}
use Rattle.sums.specs.Fill.{First}
use Rattle.linear.proofs.scaled.Given as goal

abbrev pub invariant-loop-k : goal.invariant-loop-k
invariant-loop-k g l = (length l.product ≡ l.k-end) × First l.k l.product (λ k. get_or l.v k nan ⊗ l.s)
