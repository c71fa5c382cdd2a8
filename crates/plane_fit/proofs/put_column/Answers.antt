-- `plane_fit::put_column` meets its contract: entry after entry of one column. Assumes nothing.
use mathlib.Core.Path.{◌≡◌, refl}
use native.Mathlib.Omega.{arith}
use Rattle.plane_fit.specs.Parts.{put-none, put_more}
use Rattle.plane_fit.proofs.put_column.Goals as goal

pub loop-e-preserved : goal.loop-e-preserved
loop-e-preserved c =
    let at = c.loop-e in
    let a = c.args in
    put_more at.e a.k _ _ at.cells _ (omega arith) (omega arith) refl at.invariant

pub returns : goal.returns
returns c =
    let e : c.loop-e.e ≡ 3 = omega arith in
    rw e at c.loop-e.invariant

pub loop-e-init : goal.loop-e-init
loop-e-init c = put-none _ _ _
