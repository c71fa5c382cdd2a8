-- `frame_segment::add_columns` meets its contract: after c turns c columns are added. Assumes nothing.
use Prim.Native.Nat.{◌+◌, ◌*◌, ◌≤◌}
use mathlib.Core.Path.{◌≡◌, refl, ◌∙◌}
use native.Mathlib.Omega.{arith}
use Rattle.terms.proofs.Laws.{column-before}
use Rattle.frame_segment.specs.Columns.{columns-none, columns_more}
use Rattle.frame_segment.specs.Steps.{rows_entry}
use Rattle.frame_segment.proofs.add_columns.Goals as goal
use Rattle.frame_segment.proofs.add_columns.Goals.{In-loop-c}

pub loop-c-init : goal.loop-c-init
loop-c-init c = (refl, columns-none _ _ _ _ _ _)

-- the column ends within the Hessian
inside : (c : In-loop-c) → let s = c.args in (s.at + (s.first + c.loop-c.c)) * s.n + s.n ≤ s.n * s.n
inside c = column-before _ _ _ (omega arith)

pub overflow_mul-base : goal.overflow_mul-base
overflow_mul-base c = omega (arith, inside c)

pub overflow_add-base-in-loop-c : goal.overflow_add-base-in-loop-c
overflow_add-base-in-loop-c c = omega (arith, inside c)

pub add_column-requires : goal.add_column-requires
add_column-requires c = (omega arith, omega (arith, inside (goal.at.add_column-requires c).In-loop-c))

pub loop-c-preserved : goal.loop-c-preserved
unfolding rows_entry
loop-c-preserved c =
    let at = c.loop-c in
    (c.add_column.auto.h ∙ at.invariant.0, columns_more _ _ _ _ _ at.h _ _ at.c at.invariant.1 c.add_column.ensures)

pub returns : goal.returns
returns c =
    let l = c.loop-c in
    let e : l.c ≡ c.args.many = omega arith in
    rw e at l.invariant.1
