-- `bundle_rows::write_jacobian` meets its contract: after f turns the first f blocks are written. Assumes nothing.
use Prim.Native.Nat.{ℕ, ◌≤◌, ◌-◌, ◌+◌, ◌*◌}
use mathlib.Core.Path.{◌≡◌, refl, ap, ◌∙◌}
use native.Mathlib.Nat.{mul-le-mul_right}
use native.Mathlib.Omega.{arith}
use lib.ListN.{length, get_or, replicate, length-replicate, length-take, length-drop}
use Rattle.sums.specs.Sum.{zero_f}
use Rattle.sums.specs.Fill.{columns-none, columns_more, columns_all, column_ends}
use Rattle.bundle_rows.specs.Rows.{total, start}
use Rattle.bundle_rows.proofs.Blocks.{start_more, start-within, block_number, block-put, block_written, block_zeros, blocks_are}
use Rattle.bundle_rows.proofs.write_jacobian.Goals as goal
use Rattle.bundle_rows.proofs.write_jacobian.Goals.{In-loop-f}

-- the Jacobian on the way is as long as it was, and its next block is within it
whole : (t : In-loop-f) → let a = t.args in
    length t.loop-f.jacobian ≡ length a.counts.now * (a.dof * a.rows)
whole t =
    t.loop-f.invariant.1.size ∙ ap length t.clear.ensures ∙ length-replicate _ _ ∙ t.requires.5

few : (frames dof rows : ℕ) → frames ≤ 256 → dof ≤ 9 → rows ≤ 65536 → (dof * rows ≤ 589824) × (frames * (dof * rows) ≤ 150994944)
few frames dof rows f d r =
    let size : dof * rows ≤ 589824 = omega (arith, mul-le-mul_right rows d) in
    (size, omega (arith, mul-le-mul_right (dof * rows) f))

ends : (t : In-loop-f) → let a = t.args in
    let size = a.dof * a.rows in (size ≤ 589824) × (t.loop-f.f * size + size ≤ length t.loop-f.jacobian) × (length t.loop-f.jacobian ≤ 150994944)
ends t =
    let a = t.args in
    let b = few (length a.counts.now) a.dof a.rows t.requires.2 t.requires.0 t.requires.1 in
    (b.0, omega (arith, whole t, column_ends (a.dof * a.rows) (length a.counts.now) t.loop-f.f t.loop-f-test.true), omega (arith, whole t, b.1))

-- the frame's rows are site points' rows
reach : (t : In-loop-f) → let counts = t.args.counts.now in
    t.loop-f.from + get_or counts t.loop-f.f 0 ≤ total counts
reach t =
    let counts = t.args.counts.now in
    let f = t.loop-f.f in
    omega (arith, t.loop-f.invariant.0, start_more counts f t.loop-f-test.true, start-within counts (f + 1))

small : (t : In-loop-f) → let counts = t.args.counts.now in
    t.loop-f.from + get_or counts t.loop-f.f 0 ≤ 65536
small t = omega (arith, reach t, t.requires.3, t.requires.1)

pub write_block-requires : goal.write_block-requires
write_block-requires c =
    let t = (goal.at.write_block-requires c).In-loop-f in
    record {
      narrow = c.requires.0;
      low = c.requires.1;
      fits = omega (arith, reach t, c.requires.3);
      enough = omega (arith, mul-le-mul_right c.args.dof (reach t), c.requires.4);
      whole = simp (length-take, length-drop) (omega (arith, ends t));
    }

pub loop-f-preserved : goal.loop-f-preserved
loop-f-preserved c =
    let a = c.args in
    let counts = a.counts.now in
    let size = a.dof * a.rows in
    let at = c.loop-f.f * size in
    let zeros = c.clear.ensures ∙ ap (λ (m : ℕ). replicate m zero_f) c.requires.5 in
    let next = start_more counts c.loop-f.f c.loop-f-test.true in
    let block = block-put counts a.dof a.state.now a.n a.info a.rows c.loop-f.f c.loop-f.from _ _ _ c.loop-f.invariant.0 (next ∙ omega (arith, c.loop-f.invariant.0)) (simp (length-take, length-drop) (omega (arith, ends (goal.at.loop-f-preserved c).In-loop-f)))
    (block_zeros counts a.dof a.state.now a.n a.info a.rows (length counts) c.loop-f.f at (at + size - at) _ c.loop-f.jacobian zeros c.loop-f.invariant.1 c.loop-f-test.true refl (omega arith)) c.write_block.ensures in (
      omega (arith, c.loop-f.invariant.0, next),
      columns_more size (length counts) (block_number counts a.dof a.state.now a.n a.info a.rows) _ c.loop-f.jacobian _ c.loop-f.f (ap length zeros ∙ length-replicate _ _) c.loop-f-test.true c.loop-f.invariant.1
          (block_written counts a.dof a.state.now a.n a.info a.rows c.loop-f.jacobian c.loop-f.f at (at + size - at) _ (omega arith) block),
    )

pub returns : goal.returns
returns c =
    let a = c.args in
    columns_all (a.dof * a.rows) (length a.counts.now) _ _ _ _ (ap length c.clear.ensures ∙ length-replicate _ _ ∙ c.requires.5) c.loop-f-test.false c.loop-f.invariant.1
    ∙ blocks_are a.counts.now a.dof a.state.now a.n a.info a.rows (length a.counts.now)

pub overflow_mul-size : goal.overflow_mul-size
overflow_mul-size c = omega (arith, (few (length c.args.counts.now) c.args.dof c.args.rows c.requires.2 c.requires.0 c.requires.1).0)

pub loop-f-init : goal.loop-f-init
loop-f-init c = (unfold start total in refl, columns-none _ _ _ _)

pub overflow_cast-count : goal.overflow_cast-count
overflow_cast-count c = omega (arith, small (goal.at.overflow_cast-count c).In-loop-f)

pub overflow_mul-at : goal.overflow_mul-at
overflow_mul-at c = omega (arith, ends (goal.at.overflow_mul-at c).In-loop-f)

pub overflow_add-end : goal.overflow_add-end
overflow_add-end c = omega (arith, ends (goal.at.overflow_add-end c).In-loop-f)

pub offset_bounds-jacobian-at : goal.offset_bounds-jacobian-at
offset_bounds-jacobian-at c = omega (arith, ends (goal.at.offset_bounds-jacobian-at c).In-loop-f)

pub slice_bounds-write_block-count : goal.slice_bounds-write_block-count
slice_bounds-write_block-count c = omega (arith, ends (goal.at.slice_bounds-write_block-count c).In-loop-f)

pub slice_bounds-write_block-start : goal.slice_bounds-write_block-start
slice_bounds-write_block-start c = omega (arith, ends (goal.at.slice_bounds-write_block-start c).In-loop-f)

pub slice_bounds-write_block-end : goal.slice_bounds-write_block-end
slice_bounds-write_block-end c = omega (arith, ends (goal.at.slice_bounds-write_block-end c).In-loop-f)

pub overflow_add-from : goal.overflow_add-from
overflow_add-from c = omega (arith, small (goal.at.overflow_add-from c).In-loop-f)
