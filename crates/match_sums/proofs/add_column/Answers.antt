-- `match_sums::add_column` meets its contract: cell after cell of one column. Assumes nothing.
use Rattle.lists.specs.Part.{◌!◌}
use Prim.Native.Nat.{◌+◌, ◌*◌}
use mathlib.Core.Path.{◌≡◌, refl}
use native.Mathlib.Omega.{arith}
use Rattle.sums.specs.Sum.{◌⊗◌}
use Rattle.match_sums.specs.Laws.{raised_none, raised_more}
use borrow.Author.Rules.{rules}
use Rattle.match_sums.proofs.add_column.Goals as goal

pub loop-i-init : goal.loop-i-init
loop-i-init g c = (search rules, search rules, raised_none _ _ _)

pub loop-i-preserved : goal.loop-i-preserved
loop-i-preserved g c =
    let at = c.loop-i in
    let a = c.args in
    (search rules, search rules, raised_more (a.c * 9) at.i (λ k. a.row.now ! k ⊗ a.a) _ at.h _ (omega arith) refl at.invariant.2)

pub returns : goal.returns
returns g c =
    let e : c.args.c + 1 ≡ c.loop-i.i = omega arith in
    rw e c.loop-i.invariant.2
