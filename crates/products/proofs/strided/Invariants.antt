use Prim.Native.Nat.{◌*◌, ◌+◌}
use mathlib.Core.Path.{◌≡◌}
use lib.ListN.{get_or}
use lib.Ieee.{nan}
use Rattle.sums.specs.Sum.{sum_to, ◌⊗◌}
use Rattle.products.proofs.strided.Given as goal

abbrev pub invariant-loop-k : goal.invariant-loop-k
invariant-loop-k l = l.s ≡ sum_to l.k (λ k. get_or l.a (l.i + k * l.di) nan ⊗ get_or l.b (l.j + k * l.dj) nan)
