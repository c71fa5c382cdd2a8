-- `match_columns::write_residuals` meets its contract: match after match. Assumes nothing.
use Prim.Native.Nat.{◌/◌}
use mathlib.Core.Path.{◌≡◌}
use native.Mathlib.Omega.{arith}
use lib.ListN.{length}
use Rattle.sums.specs.Fill.{first-none, first_more, first_all}
use Rattle.match_rows.specs.Row.{residual_at}
use Rattle.map_plane.specs.Match.{MATCH}
use borrow.Author.Rules.{rules}
use Rattle.match_columns.proofs.write_residuals.Goals as goal

pub loop-k-preserved : goal.loop-k-preserved
loop-k-preserved c =
    let at = c.loop-k in
    (search rules, first_more at.residual _ at.k _ (omega arith) c.residual_at.ensures at.invariant.1)

pub returns : goal.returns
returns c =
    let at = c.loop-k in
    let a = c.args in
    let e : at.k ≡ length a.list.now / MATCH = omega arith in
    first_all _ at.residual (residual_at a.x.now a.list.now) at.invariant.0 (rw e at at.invariant.1)

pub loop-k-init : goal.loop-k-init
loop-k-init c = (search rules, first-none c.args.residual.now _)
