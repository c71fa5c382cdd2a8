-- `transformed_frames::frames::add_stored` meets its contract: the numbers as they stand, or through the transform. Assumes nothing.
use native.Mathlib.Omega.{arith}
use Rattle.transform_products.proofs.Laws.{there_room}
use Rattle.transformed_frames.proofs.Laws.{through_added}
use Rattle.transformed_frames.proofs.frames.add_stored.Goals as goal

pub overflow_mul-k : goal.overflow_mul-k
overflow_mul-k c =
    let shape = c.in-Some.shape in
    omega (arith, (c.requires.6 shape.rows shape.cols c.in-Some.is).2)

pub add_through-requires : goal.add_through-requires
add_through-requires c =
    let pre = c.requires in
    let shape = c.in-Some.shape in
    let is = c.in-Some.is in
    let there = pre.6 shape.rows shape.cols is in
    (omega (arith, there.1, pre.0), there.0, pre.1, omega (arith, there.1, pre.2), omega (arith, there_room _ _ _ _ _ pre.0 there.0 there.1 there.2), rw is at pre.3, pre.4, pre.5, omega arith)

pub returns-in-Some : goal.returns-in-Some
returns-in-Some c =
    let shape = c.in-Some.shape in
    let is = c.in-Some.is in
    through_added _ _ _ _ _ _ _ _ _ _ _ _ shape.rows shape.cols _ is (c.requires.6 shape.rows shape.cols is).1 c.add_through.ensures
