-- `frame_rows::write_fixed` meets its contract: no set, or the set's four rows. Assumes nothing.
use Prim.Native.Nat.{◌+◌, ◌*◌, ◌≤◌}
use mathlib.Core.Path.{◌∙◌}
use native.Mathlib.Omega.{arith}
use lib.ListN.{length}
use Rattle.decomposition.specs.Axes.{DECOMPOSITION}
use Rattle.frame_roots.specs.Roots.{decomposition_whole}
use Rattle.frame_rows.proofs.Frames.{fixed_none, fixed_some}
use Rattle.frame_rows.proofs.write_fixed.Goals as goal
use Rattle.frame_rows.proofs.write_fixed.Goals.{Else-fixed-eq0}

pub returns-then-fixed-eq0 : goal.returns-then-fixed-eq0
returns-then-fixed-eq0 c =
    let a = c.args in
    c.put_four.ensures ∙ fixed_none a.count a.fixed.now a.ds.now a.p.plane.normal a.p.plane.offset a.p.info a.residual.now _ c.if-fixed-eq0.true

-- the fixed set's own decomposition is within the list
own : (e : Else-fixed-eq0) → let a = e.args in (a.count + 1) * DECOMPOSITION + DECOMPOSITION ≤ length a.ds.now
own e = omega (arith, e.requires.own_decomposition e.if-fixed-eq0.false)

pub fixed_rows-four-requires : goal.fixed_rows-four-requires
fixed_rows-four-requires c =
    let a = c.args in
    rw c.decomposition_at.ensures (decomposition_whole a.ds.now (a.count + 1) (own (goal.at.fixed_rows-four-requires c).Else-fixed-eq0))

pub returns : goal.returns
returns c =
    let a = c.args in
    c.put_four-2.ensures
    ∙ fixed_some a.count a.fixed.now a.ds.now a.p.plane.normal a.p.plane.offset a.p.info a.residual.now _ c.from_list-f.result _ c.along-along.result _ c.if-fixed-eq0.false c.from_list-f.ensures c.decomposition_at.ensures c.along-along.ensures c.fixed_rows-four.ensures
