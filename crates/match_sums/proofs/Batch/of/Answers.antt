-- `match_sums::Batch::of` meets its contract: after k turns the numbers of the batch's first k matches are stored. Assumes nothing.
use mathlib.Core.Path.{◌≡◌}
use native.Mathlib.Nat.{not-suc-le-zero}
use native.Mathlib.Omega.{arith}
use Rattle.sums.specs.Fill.{first_more}
use borrow.Author.Rules.{rules}
use Rattle.match_sums.proofs.Batch.of.Goals as goal

pub loop-k-init : goal.loop-k-init
loop-k-init c = (search rules, search rules, λ k h. absurd (not-suc-le-zero h), λ k h. absurd (not-suc-le-zero h))

pub loop-k-preserved : goal.loop-k-preserved
loop-k-preserved c =
    let at = c.loop-k in (
      search rules,
      search rules,
      first_more at.infos _ at.k _ (omega arith) c.information_at.ensures at.invariant.2,
      first_more at.residuals _ at.k _ (omega arith) c.residual_at.ensures at.invariant.3,
    )

pub returns : goal.returns
returns c =
    let at = c.loop-k in
    let e : c.args.size ≡ at.k = omega arith in
    (search rules, search rules, rw e at.invariant.2, rw e at.invariant.3)
