-- `transform_products::add_plain` meets its contract: after j turns the first j columns are added. Assumes nothing.
use Prim.Native.Nat.{◌+◌, ◌*◌, ◌≤◌}
use mathlib.Core.Path.{refl, ◌∙◌}
use native.Mathlib.Omega.{arith}
use Rattle.terms.proofs.Laws.{upto-none, block_more, block_all, column-before}
use Rattle.transform_products.specs.Rows.{spaced}
use Rattle.transform_products.proofs.add_plain.Goals as goal
use Rattle.transform_products.proofs.add_plain.Goals.{In-loop-j}

-- the column ends within the Hessian
inside : (c : In-loop-j) → let s = c.args in (s.at + c.loop-j.j) * s.n + s.n ≤ s.n * s.n
inside c = column-before _ _ _ (omega arith)

pub add_spaced-requires : goal.add_spaced-requires
add_spaced-requires c =
    let pre = c.requires in
    (pre.0, pre.1, omega arith, omega (arith, inside (goal.at.add_spaced-requires c).In-loop-j))

pub loop-j-preserved : goal.loop-j-preserved
unfolding spaced
loop-j-preserved c =
    let l = c.loop-j in
    (c.add_spaced.auto.g ∙ l.invariant.0, block_more _ l.h _ _ _ _ _ l.j l.invariant.1 c.add_spaced.ensures)

pub returns : goal.returns
returns c = block_all _ _ _ _ _ c.loop-j.j _ (omega arith) c.loop-j.invariant.1

pub loop-j-init : goal.loop-j-init
loop-j-init c = (refl, upto-none _ _)

pub overflow_mul-base : goal.overflow_mul-base
overflow_mul-base c = omega (arith, inside c)

pub overflow_add-base-in-loop-j : goal.overflow_add-base-in-loop-j
overflow_add-base-in-loop-j c = omega (arith, inside c)
