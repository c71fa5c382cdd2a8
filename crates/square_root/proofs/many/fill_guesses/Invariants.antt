use Rattle.std.proofs.Common.{◌≡◌, ℕ, ◌<◌, ◌≤◌, get_or}
use Rattle.square_root.specs.Many.{Told}
use Rattle.square_root.proofs.many.fill_guesses.Given as goal

abbrev pub invariant-loop-k : goal.invariant-loop-k
invariant-loop-k l = record {
  told : (i : ℕ) → i < l.k → Told (get_or l.initial.ns i 0) (get_or l.ns i 0) (get_or l.ys i 0);
  rest : (i : ℕ) → l.k ≤ i → get_or l.ns i 0 ≡ get_or l.initial.ns i 0;
}
