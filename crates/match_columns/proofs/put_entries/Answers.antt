-- `match_columns::put_entries` meets its contract: entry after entry. Assumes nothing.
use Prim.Native.Nat.{◌+◌}
use mathlib.Core.Path.{◌≡◌}
use native.Mathlib.Omega.{arith}
use borrow.Author.Rules.{rules}
use Rattle.sums.specs.Fill.{column_ends}
use Rattle.match_columns.specs.Columns.{put-none, put_more}
use Rattle.match_columns.proofs.put_entries.Goals as goal

pub overflow_mul-out : goal.overflow_mul-out
overflow_mul-out c =
    let a = c.args in
    omega (arith, column_ends a.rows (a.c + a.w) (a.c + c.loop-e.e) (omega arith))

pub overflow_add-out-in-loop-e : goal.overflow_add-out-in-loop-e
overflow_add-out-in-loop-e c =
    let a = c.args in
    omega (arith, column_ends a.rows (a.c + a.w) (a.c + c.loop-e.e) (omega arith))

pub offset_bounds-out-c : goal.offset_bounds-out-c
offset_bounds-out-c c =
    let a = c.args in
    omega (arith, column_ends a.rows (a.c + a.w) (a.c + c.loop-e.e) (omega arith))

pub bounds-out-c : goal.bounds-out-c
bounds-out-c c =
    let a = c.args in
    omega (arith, column_ends a.rows (a.c + a.w) (a.c + c.loop-e.e) (omega arith))

pub loop-e-preserved : goal.loop-e-preserved
loop-e-preserved c =
    let a = c.args in
    let ends = column_ends a.rows (a.c + a.w) (a.c + c.loop-e.e) (omega arith) in
    let put = put_more a.rows a.k a.c c.loop-e.e _ _ c.loop-e.out _ (search rules) (omega (arith, ends)) c.entry.ensures c.loop-e.invariant.1 in
    (put.size, put)

pub returns : goal.returns
returns c =
    let e : c.args.w ≡ c.loop-e.e = omega arith in
    rw e c.loop-e.invariant.1

pub loop-e-init : goal.loop-e-init
loop-e-init c = (search rules, put-none _ _ _ _ _)
