-- `match_sums::add_row` meets its contract: column after column. Assumes nothing.
use Rattle.lists.specs.Part.{◌!◌}
use mathlib.Core.Path.{◌≡◌, refl}
use native.Mathlib.Omega.{arith}
use Rattle.sums.specs.Sum.{◌⊗◌}
use Rattle.match_sums.specs.Laws.{raised_none, raised_at, upper_none, upper_more, added_all}
use borrow.Author.Rules.{rules}
use Rattle.match_sums.proofs.add_row.Goals as goal

pub loop-c-init : goal.loop-c-init
loop-c-init g c = (search rules, search rules, upper_none _ _, raised_none _ _ _)

pub loop-c-preserved : goal.loop-c-preserved
loop-c-preserved g c =
    let at = c.loop-c in
    let a = c.args in
    let up = upper_more at.c (λ i. a.row.now ! i) _ at.u.block _ (omega arith) at.invariant.2 c.add_column.ensures in
    (omega (arith, c.add_column.ensures.size), search rules, up, raised_at at.c (λ i. a.row.now ! i ⊗ a.r) _ at.u.vector _ (omega arith) refl at.invariant.3)

pub returns : goal.returns
returns g c =
    let at = c.loop-c in
    let a = c.args in
    let e : at.c ≡ g.row.W = omega arith in
    added_all (λ i. a.row.now ! i) a.r g.row.W _ _ _ _ (rw e at at.invariant.2) (rw e at at.invariant.3)
