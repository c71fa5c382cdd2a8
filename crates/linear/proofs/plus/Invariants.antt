-- `linear::plus` fills the result from the front: at turn k its first k numbers are those that it should have.
use Rattle.std.proofs.Common.{◌≡◌, length, get_or}
use Rattle.std.specs.Float.{nan}
use Rattle.sums.specs.Sum.{◌⊕◌}
use Rattle.sums.specs.Fill.{First}
use Rattle.linear.proofs.plus.Given as goal

abbrev pub invariant-loop-k : goal.invariant-loop-k
invariant-loop-k g l = (length l.sum ≡ l.k-end) × First l.k l.sum (λ k. get_or l.a k nan ⊕ get_or l.b k nan)
