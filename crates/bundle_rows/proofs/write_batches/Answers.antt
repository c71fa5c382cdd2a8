-- `bundle_rows::write_batches` meets its contract: before each batch the rows before it are written. Assumes nothing.
use Prim.Native.Nat.{◌≤◌, ◌<◌, ◌+◌}
use mathlib.Core.Path.{◌≡◌}
use native.Mathlib.Omega.{arith}
use Rattle.lists.specs.Batch.{batch_fits}
use Rattle.bundle_rows.proofs.Places.{part}
use Rattle.bundle_rows.proofs.Cells.{rows_none, rows_more}
use borrow.Author.Rules.{rules}
use Rattle.bundle_rows.proofs.write_batches.Goals as goal
use Rattle.bundle_rows.proofs.write_batches.Goals.{After-batch_size-size}

-- a batch is within the frame's rows, which are few
fits : (b : After-batch_size-size) → let size = b.batch_size-size.result in let i = b.loop-i.i in let a = b.args in
    (0 < size) × (i + size ≤ a.count) × (a.from + a.count ≤ 65536)
fits b =
    let f = batch_fits b.batch_size-size.ensures b.loop-i-test.true (omega arith) in
    (f.0, f.2, omega (arith, b.requires.fits, b.requires.low))

pub write_batch-requires : goal.write_batch-requires
write_batch-requires c =
    rw c.loop-i.invariant.1.size (part _ _ _ _ _ _ c.requires c.loop-i.i _ (fits (goal.at.write_batch-requires c).After-batch_size-size).1)

pub loop-i-preserved : goal.loop-i-preserved
loop-i-preserved c =
    let l = c.loop-i in
    let e : c.batch_size-size.result ≡ 16 = omega arith in
    (search rules, rw e at (rows_more _ _ _ _ l.i _ _ _ _ _ _ l.invariant.1 c.write_batch.ensures))

pub returns : goal.returns
returns c =
    let e : c.loop-i.i ≡ c.args.count = omega arith in
    rw e at c.loop-i.invariant.1

pub loop-i-init : goal.loop-i-init
loop-i-init c = (search rules, rows_none _ _ _ _ _ _ _)

pub overflow_add-from : goal.overflow_add-from
overflow_add-from c = omega (arith, fits c)

pub loop-i-smaller : goal.loop-i-smaller
loop-i-smaller c = omega (arith, fits (goal.at.loop-i-smaller c).After-batch_size-size)
