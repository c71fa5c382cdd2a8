use Rattle.std.proofs.Common.{◌≡◌, ℕ, ◌<◌, ◌≤◌, get_or}
use lib.Ieee.{nan}
use Rattle.square_root.specs.Computed.{square_root}
use Rattle.square_root.proofs.many.settle.Given as goal

abbrev pub invariant-loop-k : goal.invariant-loop-k
invariant-loop-k l = record {
  roots : (i : ℕ) → i < l.k → get_or l.xs i nan ≡ square_root (get_or l.initial.xs i nan);
  rest : (i : ℕ) → l.k ≤ i → get_or l.xs i nan ≡ get_or l.initial.xs i nan;
}
