-- `match_rows::by_rows` meets its contract: filled row by row. Assumes nothing.
use Prim.Native.Nat.{◌+◌, ◌*◌}
use mathlib.Core.Path.{◌≡◌, refl}
use native.Mathlib.Nat.{add-zero}
use native.Mathlib.Omega.{arith}
use Rattle.sums.specs.Laws.{grid_more, grid_all}
use Rattle.match_rows.specs.ByRows.{by_rows, by_rows_at}
use borrow.Author.Rules.{rules}
use Rattle.match_rows.proofs.by_rows.Goals as goal

pub loop-e-init : goal.loop-e-init
loop-e-init c = (search rules, refl)

pub loop-c-init : goal.loop-c-init
loop-c-init c = (c.loop-e.invariant.0, rw add-zero c.loop-e.invariant.1)

pub loop-c-preserved : goal.loop-c-preserved
loop-c-preserved c =
    let at = c.loop-c in
    let e = c.loop-e.e in
    let next : e * 9 + (at.c + 1) ≡ e * 9 + at.c + 1 = omega arith in
    (search rules, rw next (grid_more 9 12 (by_rows_at c.args.x.now) at.t (e * 9 + at.c) at.c e _ (search rules) (search rules) refl at.invariant.0 refl at.invariant.1))

pub loop-e-preserved : goal.loop-e-preserved
loop-e-preserved c =
    let ends : (c.loop-e.e + 1) * 9 ≡ c.loop-e.e * 9 + c.loop-c.c = omega arith in
    (c.loop-c.invariant.0, rw ends c.loop-c.invariant.1)

pub returns : goal.returns
unfolding by_rows
returns c =
    let at = c.loop-e in
    grid_all 9 12 (by_rows_at c.args.x.now) at.t (at.e * 9) (omega arith) at.invariant.0 at.invariant.1
