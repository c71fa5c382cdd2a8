-- `match_rows::row` meets its contract: the second call goes on after the first. Assumes nothing.
use Prim.Native.Nat.{◌≤◌}
use native.Mathlib.Omega.{arith}
use Rattle.sums.specs.Fill.{first-none, first_all}
use Rattle.match_rows.proofs.row.Goals as goal

pub fill-requires : goal.fill-requires
fill-requires g c =
    let w : g.row.W ≤ 9 = c.requires in
    let m : c.min-middle.result ≤ g.row.W = rw c.min-middle.ensures (omega arith) in
    (omega arith, (omega arith, m, w, first-none _ _))

pub fill-requires-2 : goal.fill-requires-2
fill-requires-2 g c =
    let w : g.row.W ≤ 9 = c.requires in
    let m : c.min-middle.result ≤ g.row.W = rw c.min-middle.ensures (omega arith) in
    (omega arith, (m, omega arith, w, c.fill.ensures.1))

pub returns : goal.returns
returns g c = first_all _ _ _ c.fill-2.ensures.0 c.fill-2.ensures.1
