-- `frame_parts::add_part` meets its contract: three columns and the vector. Assumes nothing.
use native.Mathlib.Omega.{arith}
use Rattle.frame_parts.specs.Parts.{columns_end, part_added}
use Rattle.frame_parts.proofs.add_part.Goals as goal

pub returns : goal.returns
returns c =
    part_added c.args.cells.now c.args.k c.args.n c.args.at
    c.three_at.ensures c.add_three.ensures
    c.three_at-2.ensures c.add_three-2.ensures
    c.three_at-3.ensures c.add_three-3.ensures
    c.three_at-4.ensures c.add_three-4.ensures

pub overflow_mul-at : goal.overflow_mul-at
overflow_mul-at c = omega (arith, columns_end _ _ c.requires.1)

pub overflow_add-at : goal.overflow_add-at
overflow_add-at c = omega (arith, columns_end _ _ c.requires.1)

pub add_three-requires : goal.add_three-requires
add_three-requires c = omega (arith, columns_end _ _ c.requires.1)

pub overflow_mul-at-2 : goal.overflow_mul-at-2
overflow_mul-at-2 c = omega (arith, columns_end _ _ c.requires.1)

pub overflow_add-at-3 : goal.overflow_add-at-3
overflow_add-at-3 c = omega (arith, columns_end _ _ c.requires.1)

pub add_three-requires-2 : goal.add_three-requires-2
add_three-requires-2 c = omega (arith, columns_end _ _ c.requires.1)

pub overflow_mul-at-3 : goal.overflow_mul-at-3
overflow_mul-at-3 c = omega (arith, columns_end _ _ c.requires.1)

pub overflow_add-at-5 : goal.overflow_add-at-5
overflow_add-at-5 c = omega (arith, columns_end _ _ c.requires.1)

pub add_three-requires-3 : goal.add_three-requires-3
add_three-requires-3 c = omega (arith, columns_end _ _ c.requires.1)
