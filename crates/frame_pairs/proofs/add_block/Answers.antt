-- `frame_pairs::add_block` meets its contract: after j turns the first j columns are added. Assumes nothing.
use Prim.Native.Nat.{◌+◌, ◌*◌, ◌≤◌}
use mathlib.Core.Path.{refl, ◌∙◌}
use native.Mathlib.Omega.{arith}
use borrow.Author.Rules.{rules}
use Rattle.terms.proofs.Laws.{upto-none, block_more, block_all, column-before}
use Rattle.frame_pairs.specs.Pairs.{block_in}
use Rattle.frame_pairs.proofs.Adding.{column_inside}
use Rattle.frame_pairs.proofs.add_block.Goals as goal
use Rattle.frame_pairs.proofs.add_block.Goals.{In-loop-j}

-- the column ends within the Hessian
inside : (c : In-loop-j) → let s = c.args in (s.at + c.loop-j.j) * s.n + s.n ≤ s.n * s.n
inside c = column-before _ _ _ (omega arith)

-- and so do its numbers within the block
numbers : (c : In-loop-j) → let s = c.args in s.cols * c.loop-j.j + s.cols ≤ s.cols * s.cols
numbers c = column_inside _ _ (omega arith)

pub add_numbers-requires : goal.add_numbers-requires
add_numbers-requires c = (search rules, omega (arith, numbers (goal.at.add_numbers-requires c).In-loop-j), omega (arith, inside (goal.at.add_numbers-requires c).In-loop-j))

pub loop-j-preserved : goal.loop-j-preserved
unfolding block_in
loop-j-preserved c =
    let l = c.loop-j in
    (c.add_numbers.auto.h ∙ l.invariant.0, block_more _ l.h _ _ _ _ _ l.j l.invariant.1 c.add_numbers.ensures)

pub returns : goal.returns
returns c = block_all _ _ _ _ _ c.loop-j.j _ (omega arith) c.loop-j.invariant.1

pub loop-j-init : goal.loop-j-init
loop-j-init c = (refl, upto-none _ _)

pub overflow_mul-base : goal.overflow_mul-base
overflow_mul-base c = omega (arith, inside c)

pub overflow_add-base-in-loop-j : goal.overflow_add-base-in-loop-j
overflow_add-base-in-loop-j c = omega (arith, inside c)

pub overflow_mul-cols : goal.overflow_mul-cols
overflow_mul-cols c = omega (arith, numbers (goal.at.overflow_mul-cols c).In-loop-j)
