-- `match_columns::jacobian` meets its contract: after each turn the columns before the next one are there. Assumes nothing.
use mathlib.Core.Path.{◌≡◌, ◌∙◌}
use native.Mathlib.Omega.{arith}
use borrow.Author.Rules.{rules}
use Rattle.match_columns.specs.Columns.{done_none, done_more}
use Rattle.match_columns.specs.Residuals.{rows_all}
use Rattle.match_columns.proofs.jacobian.Goals as goal

pub loop-c-init : goal.loop-c-init
loop-c-init c =
    let told = c.begin-c.ensures in
    (told.0, told.2.size ∙ c.requires.2, done_more _ _ _ _ _ _ told.2 (done_none _ _ _))

pub loop-c-preserved : goal.loop-c-preserved
loop-c-preserved c =
    let l = c.loop-c in
    let told = c.write_next-c.ensures in
    (told.1, told.2.size ∙ l.invariant.1, done_more _ _ _ _ _ _ told.2 l.invariant.2)

pub returns : goal.returns
returns c =
    let at = c.loop-c in
    let a = c.args in
    let e : at.c ≡ a.dof = omega arith in
    (c.begin-c.ensures.1, rows_all a.x.now _ a.list.now at.out _ a.dof c.by_rows-t.ensures c.requires.0 at.invariant.1 (rw e at at.invariant.2))

pub begin-c-requires : goal.begin-c-requires
begin-c-requires c = (search rules, search rules, search rules)

pub write_next-c-requires : goal.write_next-c-requires
write_next-c-requires c = (omega arith, search rules, search rules, search rules)
