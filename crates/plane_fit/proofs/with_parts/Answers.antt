-- `plane_fit::with_parts` meets its contract: part after part. Assumes nothing.
use mathlib.Core.Path.{◌≡◌}
use native.Mathlib.Numerals.{add-one}
use native.Mathlib.Omega.{arith}
use Rattle.plane_fit.proofs.with_parts.Goals as goal

pub loop-k-preserved : goal.loop-k-preserved
loop-k-preserved c =
    let at = c.loop-k in
    rw (c.with_part-r.ensures, c.part_at.ensures, at.invariant, add-one at.k)

pub returns : goal.returns
returns c =
    let e : c.args.size ≡ c.loop-k.k = omega arith in
    rw e c.loop-k.invariant
