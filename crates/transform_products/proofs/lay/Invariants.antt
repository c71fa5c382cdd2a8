use Prim.Native.Nat.{◌+◌}
use Rattle.lists.specs.Part.{◌!◌}
use Rattle.normal_blocks.specs.Target.{entry_of}
use Rattle.transform_products.specs.Rows.{row_with, Rows}
use Rattle.transform_products.proofs.lay.Given as goal

abbrev pub invariant-loop-i : goal.invariant-loop-i
invariant-loop-i l = Rows 10 (l.width + 1) (row_with l.width (entry_of 9 l.m) (λ r. l.v ! r)) l.i l.out
