-- `frame_rows::write_frames` meets its contract: before each batch the rows and blocks of the frames before it are written. Assumes nothing.
use Prim.Native.Nat.{ℕ, ◌+◌, ◌*◌, ◌≤◌, ◌<◌}
use mathlib.Core.Path.{◌≡◌}
use mathlib.Core.List.{List}
use lib.Ieee.{Float}
use native.Mathlib.Omega.{arith}
use lib.ListN.{length}
use Rattle.lists.specs.Batch.{batch_fits}
use Rattle.plane_fit.specs.Fit.{frame_count}
use Rattle.frame_roots.specs.Batch.{BATCH}
use Rattle.frame_rows.specs.Batch.{BatchRoom}
use Rattle.frame_rows.specs.Steps.{FramesWritten}
use Rattle.frame_rows.proofs.Frames.{batch_ends}
use Rattle.frame_rows.proofs.Loop.{Lined, lined_more, lined_all}
use Rattle.frame_rows.proofs.write_frames.Goals as goal
use Rattle.frame_rows.proofs.write_frames.Goals.{Start, After-batch_size-size, After-clear_part-arg-1, After-write_columns}

-- a turn's batch is within its bounds
fits : (b : After-batch_size-size) → let size = b.batch_size-size.result in (0 < size) × (size ≤ BATCH) × (b.loop-from.from + size ≤ frame_count b.args.frames.now)
fits b = batch_fits b.batch_size-size.ensures b.loop-from-test.true (omega arith)

-- a turn's columns, for a Jacobian that is as long as the loop's
batch-room : (b : After-batch_size-size) → let a = b.args in let l = b.loop-from in
    BatchRoom a.frames.now a.actions.now l.from b.batch_size-size.result a.width (length a.residual.now) (length l.jacobian)
batch-room b =
    let room = b.requires in
    record {
      some = (fits b).0;
      few = (fits b).1;
      within = (fits b).2;
      actions_whole = room.actions_whole;
      rows_whole = room.residual_whole;
      cells_whole = b.loop-from.invariant.1.cells.size;
      narrow = room.narrow;
    }

-- the places of the columns that are cleared fit
ends : (c : After-clear_part-arg-1) → let a = c.args in
    c.loop-from.from * a.width * length a.residual.now + c.batch_size-size.result * a.width * length a.residual.now ≤ length c.loop-from.jacobian
ends c = batch_ends _ _ _ _ _ _ _ (batch-room (goal.at.After-clear_part-arg-1 c).After-batch_size-size)

-- what is written with a turn's batch
lined : (c : After-write_columns) → let a = c.args in
    Lined a.frames.now a.actions.now a.ds.now a.p a.width a.residual.now a.jacobian.now c.store_rows.new.out c.write_columns.new.jacobian (c.loop-from.from + c.batch_size-size.result)
lined c =
    let b = (goal.at.After-write_columns c).After-batch_size-size in
    let l = c.loop-from in
    let a = c.args in
    lined_more a.frames.now a.actions.now a.ds.now a.p a.width a.residual.now a.jacobian.now c.requires l.residual l.jacobian l.from l.invariant.1 _ _ _ _ _ (fits b).2 c.fill_roots.ensures c.fill_residuals.ensures c.store_rows.ensures (rw c.clear_part.ensures at c.write_columns.ensures)

pub loop-from-preserved : goal.loop-from-preserved
loop-from-preserved c =
    let e : c.batch_size-size.result ≡ BATCH = omega arith in
    (omega arith, rw e at (lined (goal.at.loop-from-preserved c).After-write_columns))

-- what the loop has where all frames are written
all : (c : Start) → let a = c.args in (residual jacobian : List Float) (from : ℕ) → from ≡ frame_count a.frames.now
    → Lined a.frames.now a.actions.now a.ds.now a.p a.width a.residual.now a.jacobian.now residual jacobian from
    → FramesWritten a.frames.now a.actions.now a.ds.now a.p a.width a.residual.now residual jacobian
all c residual jacobian from e sofar =
    let a = c.args in
    lined_all a.frames.now a.actions.now a.ds.now a.p a.width a.residual.now a.jacobian.now c.requires residual jacobian from sofar e

pub returns : goal.returns
returns c = all (goal.at.returns c).Start _ _ c.loop-from.from (omega arith) c.loop-from.invariant.1

pub returns-2 : goal.returns-2
returns-2 c =
    all (goal.at.returns-2 c).Start _ _ (c.loop-from.from + c.batch_size-size.result) (omega arith) (lined (goal.at.returns-2 c).After-write_columns)

pub clear_part-requires : goal.clear_part-requires
clear_part-requires c = ends c
