-- `bundle_rows::write_rows` meets its contract: after i turns the first 2·i rows are written. Assumes nothing.
use Prim.Native.Nat.{◌+◌, ◌-◌, ◌*◌, ◌/◌}
use mathlib.Core.Path.{◌≡◌}
use native.Mathlib.Omega.{arith}
use Rattle.bundle_rows.proofs.Places.{part}
use Rattle.bundle_rows.proofs.Cells.{rows_none, rows_more}
use Rattle.bundle_rows.proofs.write_rows.Goals as goal

pub put_pairs-requires : goal.put_pairs-requires
put_pairs-requires c =
    (c.requires.0, rw c.loop-i.invariant.size (part _ _ _ _ _ _ c.requires.1 (c.loop-i.i * 2) 2 (omega arith)))

pub loop-i-preserved : goal.loop-i-preserved
loop-i-preserved c =
    let next : c.loop-i.i * 2 + 2 ≡ (c.loop-i.i + 1) * 2 = omega arith in
    rw next at (rows_more _ _ _ _ (c.loop-i.i * 2) 2 _ _ _ _ _ c.loop-i.invariant c.put_pairs.ensures)

pub loop-i-init : goal.loop-i-init
loop-i-init c = rows_none _ _ _ _ _ _ _

pub put_row-requires : goal.put_row-requires
put_row-requires c =
    let last : c.args.from + c.args.count / 2 * 2 ≡ c.args.from + c.args.count - 1 = omega arith in
    (c.requires.0, rw (c.loop-i.invariant.size, ← last) (part _ _ _ _ _ _ c.requires.1 (c.args.count / 2 * 2) 1 (omega arith)))

pub returns-then-count-eq1 : goal.returns-then-count-eq1
returns-then-count-eq1 c =
    let i = c.loop-i.i in
    let last : c.args.from + c.args.count - 1 ≡ c.args.from + i * 2 = omega arith in
    let all : i * 2 + 1 ≡ c.args.count = omega arith in
    rw all at (rows_more _ _ _ _ (i * 2) 1 _ _ _ _ _ c.loop-i.invariant (rw last at c.put_row.ensures))

pub returns-else-count-eq1 : goal.returns-else-count-eq1
returns-else-count-eq1 c =
    let all : c.loop-i.i * 2 ≡ c.args.count = omega arith in
    rw all at c.loop-i.invariant

pub overflow_add-from : goal.overflow_add-from
overflow_add-from c = omega (arith, c.requires.1.fits, c.requires.1.low)
