-- `transformed_frames::frames::run_end` meets its contract: the frames passed have the first one's shape. Assumes nothing.
use mathlib.Core.Path.{◌≡◌}
use native.Mathlib.Omega.{arith}
use borrow.Author.Rules.{rules}
use Rattle.transformed_frames.proofs.Runs.{alike_one, alike_more}
use Rattle.transformed_frames.proofs.frames.run_end.Goals as goal

pub loop-k-init : goal.loop-k-init
loop-k-init c = alike_one _ _

pub loop-k-preserved : goal.loop-k-preserved
loop-k-preserved c =
    let same : c.shape_at.result ≡ c.shape_at-s.result = search rules in
    alike_more _ _ _ _ _ c.shape_at-s.ensures c.shape_at.ensures same c.loop-k.invariant

pub returns : goal.returns
returns c =
    let l = c.loop-k in
    let e : l.k ≡ c.args.count = omega arith in
    (omega arith, omega arith, rw e at l.invariant)
