-- `normal_blocks::target::add_block` meets its contract: after c turns the first c columns are added. Assumes nothing.
use Prim.Native.Nat.{◌+◌, ◌*◌, ◌≤◌}
use mathlib.Core.Path.{refl, ◌∙◌}
use native.Mathlib.Omega.{arith}
use Rattle.terms.proofs.Laws.{upto-none, block_more, block_all, column-before}
use Rattle.normal_blocks.specs.Target.{entry_of}
use Rattle.normal_blocks.proofs.target.add_block.Goals as goal
use Rattle.normal_blocks.proofs.target.add_block.Goals.{In-loop-c}

pub loop-c-init : goal.loop-c-init
loop-c-init c = (refl, upto-none _ _)

-- the column ends within the Hessian, and its numbers within the block
inside : (c : In-loop-c) → let s = c.args in (s.offset + c.loop-c.c) * s.n + s.n ≤ s.n * s.n
inside c = column-before _ _ _ (omega arith)

lent : (c : In-loop-c) → let s = c.args in c.loop-c.c * s.stride + s.stride ≤ s.width * s.stride
lent c = column-before _ _ _ (omega arith)

pub overflow_mul-base : goal.overflow_mul-base
overflow_mul-base c = omega (arith, inside (goal.at.overflow_mul-base c).In-loop-c)

pub overflow_add-base-in-loop-c : goal.overflow_add-base-in-loop-c
overflow_add-base-in-loop-c c = omega (arith, inside (goal.at.overflow_add-base-in-loop-c c).In-loop-c)

pub overflow_mul-from : goal.overflow_mul-from
overflow_mul-from c = omega (arith, lent (goal.at.overflow_mul-from c).In-loop-c)

pub add_run-requires : goal.add_run-requires
add_run-requires c = (omega (arith, inside (goal.at.add_run-requires c).In-loop-c), omega (arith, lent (goal.at.add_run-requires c).In-loop-c))

pub loop-c-preserved : goal.loop-c-preserved
unfolding entry_of
loop-c-preserved c =
    let at = c.loop-c in
    (c.add_run.auto.h ∙ at.invariant.0, block_more _ at.h _ _ _ _ _ at.c at.invariant.1 c.add_run.ensures)

pub returns : goal.returns
returns c = block_all _ _ _ _ _ c.loop-c.c _ (omega arith) c.loop-c.invariant.1
