-- `frame_rows::write_columns` meets its contract: after c turns the first c columns of the batch's blocks are put. Assumes nothing.
use Prim.Native.Nat.{◌≤◌, ◌+◌, ◌*◌}
use mathlib.Core.Path.{◌≡◌, refl, ap, ◌∙◌}
use mathlib.Core.List.{List}
use native.Mathlib.Omega.{arith}
use lib.ListN.{length}
use lib.Ieee.{Float}
use Rattle.lists.specs.Part.{◌!◌}
use Rattle.frame_roots.specs.Batch.{root_in}
use Rattle.frame_rows.specs.Batch.{column_rows}
use Rattle.frame_rows.specs.Laws.{put_same, length-put, blocks_none, blocks_more}
use Rattle.frame_rows.proofs.Frames.{column_fits, batch_starts, batch_narrow, batch_step}
use Rattle.frame_rows.proofs.write_columns.Goals as goal
use Rattle.frame_rows.proofs.write_columns.Goals.{In-loop-c, Start}

-- the room of a turn, and the Jacobian's length in it
abbrev start : (t : In-loop-c) → Start
start t = (goal.at.In-loop-c t).Start

kept : (t : In-loop-c) → length t.loop-c.jacobian ≡ length (start t).args.jacobian.now
kept t = t.loop-c.invariant.0

-- where a turn's column lies
abbrev Placed : (t : In-loop-c) → Type 0
Placed t =
    let a = (start t).args in
    let col = a.from * a.width + t.loop-c.c in
    (col * a.rows + a.rows ≤ length a.jacobian.now) × (col ≤ col * a.rows) × (a.width * a.rows ≤ length a.jacobian.now) × (a.from * 4 + 4 ≤ a.rows)

placed : (t : In-loop-c) → Placed t
placed t =
    let room = (start t).requires in
    let l = t.loop-c in (
      batch_starts _ _ _ _ _ _ _ room l.c t.loop-c-test.true,
      batch_narrow _ _ _ _ _ _ _ room l.c t.loop-c-test.true,
      batch_step _ _ _ _ _ _ _ room l.c t.loop-c-test.true,
      omega (arith, room.rows_whole, room.within, room.some),
    )

pub store_rows-requires : goal.store_rows-requires
store_rows-requires c =
    let t = (goal.at.store_rows-requires c).In-loop-c in
    ((start t).requires.few, λ k h. rw (kept t) (column_fits _ _ _ _ _ _ _ (start t).requires c.loop-c.c c.loop-c-test.true k h))

pub loop-c-preserved : goal.loop-c-preserved
loop-c-preserved c =
    let t = (goal.at.loop-c-preserved c).In-loop-c in
    let a = (start t).args in
    let l = c.loop-c in
    let held = c.fill_column.ensures in
    let at = (a.from * a.width + l.c) * a.rows + a.from * 4 in
    let step = a.width * a.rows + 4 in
    let w = c.store_rows.ensures ∙ put_same l.jacobian at step _ (λ k r. column_rows a.frames.now a.actions.now a.p l.c (root_in a.roots.now k) (a.from + k) ! r) a.size (λ k h r b. ap (λ (v : List Float). v ! r) (held.each k h)) in (
      ap length w ∙ length-put l.jacobian at step _ a.size (λ k h. rw (kept t) (column_fits _ _ _ _ _ _ _ (start t).requires l.c c.loop-c-test.true k h)) ∙ l.invariant.0,
      blocks_more _ l.jacobian _ a.from a.width a.rows a.size _ l.c l.invariant.1 w,
    )

pub loop-c-init : goal.loop-c-init
loop-c-init c = (refl, blocks_none _ _ _ _ _ _)

pub overflow_mul-at-in-loop-c : goal.overflow_mul-at-in-loop-c
overflow_mul-at-in-loop-c c = omega (arith, placed (goal.at.overflow_mul-at-in-loop-c c).In-loop-c)

pub overflow_add-at-in-loop-c : goal.overflow_add-at-in-loop-c
overflow_add-at-in-loop-c c = omega (arith, placed (goal.at.overflow_add-at-in-loop-c c).In-loop-c)
