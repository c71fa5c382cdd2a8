-- `linear::scaled` meets its contract: one number more each turn, and after the last one all N are there. Assumes nothing.
use Rattle.std.proofs.Common.{◌≡◌, ◌∙◌, ◌<◌, refl, length, length-set, arith}
use Rattle.sums.specs.Fill.{first_more, first_all}
use Rattle.linear.proofs.scaled.Goals as goal

pub loop-k-preserved : goal.loop-k-preserved
loop-k-preserved g c =
    let at = c.loop-k in
    let within : at.k < length at.product = omega arith in
    (length-set at.product at.k _ ∙ at.invariant.0, first_more _ _ _ _ within refl at.invariant.1)

pub returns : goal.returns
returns g c =
    let all : c.loop-k.k ≡ g.row.N = omega arith in
    first_all g.row.N _ _ c.loop-k.invariant.0 (rw all at c.loop-k.invariant.1)
