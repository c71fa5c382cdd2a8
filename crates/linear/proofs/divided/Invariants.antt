-- `linear::divided` fills the result from the front: at turn k its first k numbers are those that it should have.
use Rattle.std.proofs.Common.{◌≡◌, length, get_or}
use Rattle.std.specs.Float.{nan, binary64}
use Rattle.std.specs.Float.Ieee.{div}
use Rattle.sums.specs.Fill.{First}
use Rattle.linear.proofs.divided.Given as goal

abbrev pub invariant-loop-k : goal.invariant-loop-k
invariant-loop-k g l = (length l.quotient ≡ l.k-end) × First l.k l.quotient (λ k. div binary64 (get_or l.v k nan) l.s)
