-- `transform_maps::make` meets its contract: in each arm what the shape says. Assumes nothing.
use native.Mathlib.Omega.{arith}
use Rattle.block_transforms.proofs.Laws.{room}
use Rattle.transform_maps.proofs.make.Goals as goal

pub overflow_mul-place : goal.overflow_mul-place
overflow_mul-place c = omega (arith, (c.requires.3 _ _ c.in-Some.is).2)

pub made_chained-requires : goal.made_chained-requires
made_chained-requires c =
    let pre = c.requires in
    let k = pre.3 _ _ c.in-Some.is in
    (pre.0, k.1, room _ _ pre.0 pre.1, pre.2, omega (arith, k.2, room _ _ k.1 pre.1))

pub made_alone-requires : goal.made_alone-requires
made_alone-requires c = let pre = c.requires in (room _ _ pre.0 pre.1, pre.2)

pub returns-in-Some : goal.returns-in-Some
returns-in-Some c = rw c.in-Some.is c.made_chained.ensures

pub returns-in-None : goal.returns-in-None
returns-in-None c = rw c.in-None.is c.made_alone.ensures
