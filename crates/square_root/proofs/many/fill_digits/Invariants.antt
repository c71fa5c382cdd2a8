use Rattle.std.proofs.Common.{◌≡◌, ℕ, ◌<◌, get_or}
use lib.Ieee.{nan}
use Rattle.square_root.specs.Many.{digits_of}
use Rattle.square_root.proofs.many.fill_digits.Given as goal

abbrev pub invariant-loop-k : goal.invariant-loop-k
invariant-loop-k l = (i : ℕ) → i < l.k → get_or l.ns i 0 ≡ digits_of (get_or l.xs i nan)
