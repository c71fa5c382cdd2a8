-- What is filled so far lies within the sample.
use Rattle.std.proofs.Common.{◌≤◌}
use Rattle.replay.proofs.fill.Given as goal

abbrev pub invariant-loop : goal.invariant-loop
invariant-loop l = l.filled ≤ 700000
