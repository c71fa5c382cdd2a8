-- `transform_maps::column` meets its contract: after k turns the nine sums have k products each. Assumes nothing.
use Prim.Native.Nat.{◌≤◌, ◌+◌, ◌*◌}
use mathlib.Core.Path.{◌≡◌, refl, ◌∙◌}
use native.Mathlib.Omega.{arith}
use Rattle.transform_maps.proofs.Laws.{sums_none, sums_first, sums_more, nine-within}
use Rattle.transform_maps.proofs.column.Goals as goal
use Rattle.transform_maps.proofs.column.Goals.{In-loop-k}

-- the nine rows from a column's start on are there
fits : (c : In-loop-k) → c.args.rows * c.loop-k.k + 9 ≤ 81
fits c =
    let pre = c.requires in
    nine-within _ _ _ pre.0 pre.1 c.loop-k-test.true

pub returns-then-inner-eq0 : goal.returns-then-inner-eq0
returns-then-inner-eq0 c = rw c.if-inner-eq0.true (sums_none 9 _ _ _ _ _ _)

pub loop-k-init : goal.loop-k-init
loop-k-init c = (refl, c.times-sums.ensures ∙ rw c.nine.ensures (sums_first 9 _ _ _ _ _ _))

pub nine-requires-in-loop-k : goal.nine-requires-in-loop-k
nine-requires-in-loop-k c = omega (arith, fits c, c.requires.2)

pub loop-k-preserved : goal.loop-k-preserved
loop-k-preserved c =
    let l = c.loop-k in
    (l.invariant.0, c.add-next.ensures ∙ rw (c.nine-in-loop-k.ensures, l.invariant.0) (sums_more 9 _ _ _ _ _ _ l.k l.sums (omega arith) l.invariant.1))

pub returns : goal.returns
returns c =
    let l = c.loop-k in
    let e : l.k ≡ c.args.inner = omega arith in
    rw e at l.invariant.1

pub overflow_mul-rows : goal.overflow_mul-rows
overflow_mul-rows c = omega (arith, fits c)
