-- `match_sums::add_batch` meets its contract: match after match. Assumes nothing.
use mathlib.Core.Path.{◌≡◌, refl}
use native.Mathlib.Omega.{arith}
use Rattle.sums.specs.Laws.{sum_from_more}
use Rattle.match_sums.specs.Laws.{summed_none, summed_more}
use Rattle.match_sums.specs.Batch.{batch_cost, batch_block, batch_vector}
use borrow.Author.Rules.{rules}
use Rattle.match_sums.proofs.add_batch.Goals as goal

pub loop-k-init : goal.loop-k-init
loop-k-init g c = (search rules, search rules, refl, summed_none _ _ _ _ _)

pub loop-k-preserved : goal.loop-k-preserved
unfolding batch_cost batch_block batch_vector
loop-k-preserved g c =
    let at = c.loop-k in
    let did = c.add_match.ensures in (
      omega (arith, did.size),
      omega (arith, did.long),
      rw (sum_from_more c.args.cost at.k _, at.invariant.2),
      summed_more g.row.W at.k _ _ _ _ _ _ _ _ at.invariant.3 did,
    )

pub returns : goal.returns
returns g c =
    let at = c.loop-k in
    let e : c.args.b.now.size ≡ at.k = omega arith in
    rw e (at.invariant.2, at.invariant.3)
