-- `match_columns::write_first` meets its contract: match after match, its residual and its entries. Assumes nothing.
use Prim.Native.Nat.{ℕ, ◌+◌, ◌-◌, ◌*◌, ◌<◌, ◌≤◌}
use lib.ListN.{length}
use mathlib.Core.Path.{◌≡◌, refl}
use native.Mathlib.Nat.{zero-add, mul-le-mul_right}
use native.Mathlib.Omega.{arith}
use borrow.Author.Rules.{rules}
use Rattle.sums.specs.Sum.{◌⊕◌, ◌⊗◌}
use Rattle.match_rows.specs.Row.{residual_at}
use Rattle.match_columns.specs.Columns.{filled_put}
use Rattle.match_columns.specs.Residuals.{rows_by, begun_none, begun_more, begun_all}
use Rattle.match_columns.proofs.write_first.Goals as goal

pub loop-k-init : goal.loop-k-init
loop-k-init g c = begun_none _ _ _ _ g.row.W c.args.residual.now _ c.requires.1

-- a column before another is within the matrix
within : (c w n rows l : ℕ) → c + w ≤ n → n * rows ≤ l → (c + w) * rows ≤ l
within c w n rows l h k = omega (arith, mul-le-mul_right rows h)

pub put_entries-requires : goal.put_entries-requires
put_entries-requires g c =
    let fits : g.row.W * c.args.rows ≤ length c.loop-k.out = omega (arith, c.requires.4, c.loop-k.invariant.2) in
    (search rules, omega arith, within 0 3 g.row.W _ _ (omega arith) fits)

pub put_entries-requires-in-loop-k : goal.put_entries-requires-in-loop-k
put_entries-requires-in-loop-k g c =
    let fits : g.row.W * c.args.rows ≤ length c.put_entries.new.out = omega (arith, c.requires.4, c.loop-k.invariant.2, c.put_entries.ensures.size) in
    (search rules, omega arith, within _ _ g.row.W _ _ (omega arith) fits)

pub loop-k-preserved : goal.loop-k-preserved
unfolding rows_by residual_at
loop-k-preserved g c =
    let a = c.args in
    let turn : c.loop-k.k < a.rows = omega arith in
    let n = g.row.W in
    let f = rows_by a.t.now a.list.now in
    let r : (c.dot3.result ⊕ c.read-m.result.plane.offset) ⊗ c.information-info.result ≡ residual_at a.x.now a.list.now c.loop-k.k = rw (c.dot3.ensures, c.plus-w.ensures, c.mat_vec.ensures, c.matrix-a.ensures, c.shift-b.ensures, c.information-info.ensures, c.read-m.ensures) in
    let one = rw (c.information-info.ensures, c.read-m.ensures) at c.put_entries.ensures in
    let two = rw (c.information-info.ensures, c.read-m.ensures) at c.put_entries-in-loop-k.ensures in
    let some = filled_put a.rows 0 n c.loop-k.k 0 0 3 f _ c.loop-k.out _ turn refl (omega arith) one c.loop-k.invariant.4 in
    let e : 3 + (n - 3) ≡ n = omega arith in
    let row = rw e at (filled_put a.rows 0 n c.loop-k.k 3 3 (n - 3) f _ _ _ turn refl (omega arith) two some) in
    begun_more a.x.now a.t.now a.list.now a.rows n c.loop-k.k c.loop-k.residual _ c.loop-k.out _ _ turn r row c.loop-k.invariant

pub returns : goal.returns
returns g c =
    let a = c.args in
    rw (zero-add g.row.W) at (begun_all a.x.now a.t.now a.list.now a.rows g.row.W c.loop-k.k c.loop-k.residual _ c.loop-k.out c.requires.0 c.loop-k-test.false c.loop-k.invariant)
