use Prim.Native.Nat.{◌+◌}
use Rattle.block_transforms.specs.Transform.{entry_from, left_product}
use Rattle.transform_products.specs.Rows.{rows_of, Rows}
use Rattle.transform_products.proofs.left.Given as goal

abbrev pub invariant-loop-i : goal.invariant-loop-i
invariant-loop-i l = Rows l.stride (l.rows + 1) (left_product l.rows (entry_from l.t l.from l.rows) (rows_of l.stride l.m)) l.i l.out
