-- `match_sums::add_numbers` meets its contract: number after number. Assumes nothing.
use Rattle.lists.specs.Part.{◌!◌}
use mathlib.Core.Path.{◌≡◌, refl}
use native.Mathlib.Omega.{arith}
use lib.ListN.{length}
use Rattle.match_sums.specs.Laws.{raised_none, raised_at}
use borrow.Author.Rules.{rules}
use Rattle.match_sums.proofs.add_numbers.Goals as goal

pub loop-i-init : goal.loop-i-init
loop-i-init g c = (search rules, raised_none _ _ _)

pub loop-i-preserved : goal.loop-i-preserved
loop-i-preserved g c =
    let at = c.loop-i in
    let b = c.args.b.now in
    (search rules, raised_at at.i (λ k. b ! k) _ at.a _ (omega arith) refl at.invariant.1)

pub returns : goal.returns
returns g c =
    let e : c.loop-i.i ≡ length c.args.b.now = omega arith in
    rw e at c.loop-i.invariant.1
