use Rattle.sums.specs.Sum.{◌⊕◌, ◌⊗◌}
use Rattle.sums.specs.Fill.{Filling}
use Rattle.lists.specs.Part.{◌!◌}
use Rattle.frame_pairs.proofs.right.Given as goal

abbrev pub invariant-loop-i : goal.invariant-loop-i
invariant-loop-i l = Filling 9 l.cols (λ d. (l.u0 ! d) ⊗ l.t0 ⊕ (l.u1 ! d) ⊗ l.t1 ⊕ (l.u2 ! d) ⊗ l.t2 ⊕ (l.u3 ! d) ⊗ l.t3 ⊕ (l.u4 ! d) ⊗ l.t4 ⊕ (l.u5 ! d) ⊗ l.t5) l.column l.i
