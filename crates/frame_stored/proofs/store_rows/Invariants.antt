use Prim.Native.Nat.{◌+◌}
use Rattle.lists.specs.Part.{◌!◌}
use Rattle.frame_segment.specs.Steps.{rows_entry}
use Rattle.transform_products.specs.Rows.{row_with, Rows}
use Rattle.frame_stored.proofs.store_rows.Given as goal

abbrev pub invariant-loop-i : goal.invariant-loop-i
invariant-loop-i l = Rows l.stride (l.width + 1) (row_with l.width (rows_entry l.r l.count l.weight) (λ j. l.v ! j)) l.i l.out
