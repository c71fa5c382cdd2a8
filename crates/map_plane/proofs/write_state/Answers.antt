-- `map_plane::write_state` meets its contract: column after column. Assumes nothing.
use mathlib.Core.Path.{◌≡◌}
use native.Mathlib.Omega.{arith}
use Rattle.sums.specs.Fill.{first-none, first_more}
use borrow.Author.Rules.{rules}
use Rattle.map_plane.proofs.write_state.Goals as goal

pub loop-c-init : goal.loop-c-init
loop-c-init c = first-none _ _

pub loop-c-preserved : goal.loop-c-preserved
loop-c-preserved c =
    let at = c.loop-c in
    first_more at.row _ at.c _ (omega arith) c.state_column.ensures at.invariant

pub returns : goal.returns
returns c =
    let e : c.args.width ≡ c.loop-c.c = omega arith in
    (rw e c.loop-c.invariant, search rules)
