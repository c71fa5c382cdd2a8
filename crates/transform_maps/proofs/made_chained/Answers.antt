-- `transform_maps::made_chained` meets its contract: after c turns the first c columns are there. Assumes nothing.
use Prim.Native.Nat.{◌+◌, ◌*◌, ◌≤◌}
use mathlib.Core.Path.{◌≡◌, ◌∙◌}
use native.Mathlib.Omega.{arith}
use Rattle.sums.specs.Fill.{column_ends}
use Rattle.transform_maps.proofs.Laws.{made_none, made_more, column-written}
use Rattle.transform_maps.proofs.made_chained.Goals as goal
use Rattle.transform_maps.proofs.made_chained.Goals.{In-loop-c}

-- a column ends within what is made, and its old one within the numbers
fits : (c : In-loop-c) → c.loop-c.c * c.args.rows + c.args.rows ≤ 81
fits c = omega (arith, column_ends c.args.rows c.args.cols c.loop-c.c c.loop-c-test.true, c.requires.2)

pub column-sums-requires : goal.column-sums-requires
column-sums-requires c =
    (c.requires.0, c.requires.1, c.requires.3, omega (arith, column_ends c.args.inner c.args.cols c.loop-c.c c.loop-c-test.true, c.requires.4))

pub write_rows-requires : goal.write_rows-requires
write_rows-requires c =
    let l = c.loop-c in
    (c.requires.0, fits (goal.at.write_rows-requires c).In-loop-c)

pub loop-c-preserved : goal.loop-c-preserved
loop-c-preserved c =
    let l = c.loop-c in
    made_more c.args.rows _ l.c l.made _ (fits (goal.at.loop-c-preserved c).In-loop-c) (c.write_rows.ensures ∙ column-written _ _ _ 9 _ _ c.requires.0 c.column-sums.ensures) l.invariant

pub returns : goal.returns
returns c =
    let l = c.loop-c in
    let e : l.c ≡ c.args.cols = omega (arith, c.loop-c-test.false) in
    rw e at l.invariant

pub loop-c-init : goal.loop-c-init
loop-c-init c = made_none _ _

pub overflow_mul-c : goal.overflow_mul-c
overflow_mul-c c = omega (arith, fits (goal.at.overflow_mul-c c).In-loop-c)
