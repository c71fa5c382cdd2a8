-- `bundle_rows::put_pairs` meets its contract: after e turns the first e columns have both cells. Assumes nothing.
use mathlib.Core.Path.{◌≡◌}
use native.Mathlib.Omega.{arith}
use Rattle.bundle_rows.proofs.Cells.{columns-none, columns_more}
use Rattle.bundle_rows.proofs.put_pairs.Goals as goal

pub put_pair-requires : goal.put_pair-requires
put_pair-requires c = (omega (arith, c.requires.0), rw c.loop-e.invariant.size c.requires.1)

pub loop-e-preserved : goal.loop-e-preserved
loop-e-preserved c =
    columns_more _ _ _ _ 2 _ c.loop-e.e 1 _ _ _ c.loop-e.invariant c.put_pair.ensures

pub loop-e-init : goal.loop-e-init
loop-e-init c = columns-none _ _ _ _ _ _ _

pub returns : goal.returns
returns c =
    let all : c.loop-e.e ≡ c.args.w = omega arith in
    rw all at c.loop-e.invariant

pub overflow_add-c : goal.overflow_add-c
overflow_add-c c = omega (arith, c.requires.0, c.requires.1.narrow)
