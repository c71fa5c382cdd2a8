-- `validate::all_finite` meets its contract: what is found so far and the rest of the list decide. Assumes nothing.
use mathlib.Core.Path.{◌≡◌, sym, ◌∙◌}
use native.Mathlib.Omega.{arith}
use lib.ListN.{length}
use Rattle.validate.proofs.Laws.{tested_more, tested_all}
use Rattle.validate.proofs.all_finite.Goals as goal

pub loop-x-preserved : goal.loop-x-preserved
loop-x-preserved c =
    rw c.is_finite-all.ensures (sym (tested_more c.loop-x.all c.args.list.now c.loop-x.x-index (omega arith)) ∙ c.loop-x.invariant)

pub returns : goal.returns
returns c =
    let at = c.loop-x in
    let list = c.args.list.now in
    let e : at.x-index ≡ length list = omega arith in
    rw (e, tested_all at.all list) at at.invariant
