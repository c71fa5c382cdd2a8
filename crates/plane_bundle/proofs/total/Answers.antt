-- `plane_bundle::total` meets its contract: after so many turns as many counts are summed. Assumes nothing.
use mathlib.Core.Path.{refl, sym, ap, ◌∙◌}
use native.Mathlib.Omega.{arith}
use lib.Seq.{take_all}
use Rattle.bundle_rows.specs.Rows.{total, start}
use Rattle.bundle_rows.proofs.Blocks.{start_more}
use borrow.Author.Rules.{rules}
use Rattle.plane_bundle.proofs.total.Goals as goal

pub loop-count-init : goal.loop-count-init
unfolding start total
loop-count-init c = (refl, search rules)

pub loop-count-preserved : goal.loop-count-preserved
loop-count-preserved c =
    let at = c.loop-count in
    let counts = c.args.counts.now in
    (rw at.invariant.0 (sym (start_more counts at.count-index (omega arith))), omega arith)

pub returns : goal.returns
unfolding start
returns c =
    let at = c.loop-count in
    let counts = c.args.counts.now in
    (at.invariant.0 ∙ ap total (take_all at.count-index counts (omega arith)), omega (arith, c.requires))
