-- `match_rows::fill` meets its contract: after each turn one more number of the row is stored. Assumes nothing.
use mathlib.Core.Path.{◌≡◌}
use native.Mathlib.Omega.{arith}
use Rattle.sums.specs.Fill.{first_more}
use borrow.Author.Rules.{rules}
use Rattle.match_rows.proofs.fill.Goals as goal

pub loop-c-init : goal.loop-c-init
loop-c-init g c = (search rules, c.requires.3)

pub loop-c-preserved : goal.loop-c-preserved
loop-c-preserved g c =
    let at = c.loop-c in
    (search rules, first_more at.row _ at.c _ (omega arith) c.entry.ensures at.invariant.1)

pub returns : goal.returns
returns g c =
    let at = c.loop-c in
    let e : c.args.to ≡ at.c = omega arith in
    (at.invariant.0, rw e at.invariant.1)
