-- No more cases agree than were tried.
use Rattle.std.proofs.Common.{◌≤◌}
use Rattle.replay.proofs.agreeing.Given as goal

abbrev pub invariant-loop : goal.invariant-loop
invariant-loop l = l.agree ≤ l.counter
