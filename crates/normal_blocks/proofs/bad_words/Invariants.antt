use mathlib.Core.Path.{◌≡◌}
use Rattle.normal_blocks.specs.Somewhere.{somewhere}
use Rattle.normal_blocks.specs.Map.{bad_word_at}
use Rattle.normal_blocks.proofs.bad_words.Given as goal

abbrev pub invariant-loop-k : goal.invariant-loop-k
invariant-loop-k l = l.bad ≡ somewhere l.k (bad_word_at l.words)
