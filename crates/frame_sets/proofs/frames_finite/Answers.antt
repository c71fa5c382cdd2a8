-- `frame_sets::frames_finite` meets its contract: after k turns the sets from k on decide. Assumes nothing.
use Prim.Native.Nat.{◌*◌}
use mathlib.Core.Path.{◌≡◌, sym, ◌∙◌}
use mathlib.Core.Bool.{true, false}
use native.Mathlib.Omega.{arith}
use lib.ListN.{length}
use lib.Seq.{drop-length}
use Rattle.validate.specs.Finite.{all_finite}
use Rattle.point_moments.specs.Moments.{MOMENTS}
use Rattle.plane_fit.specs.Records.{record_of, whole, record_length}
use Rattle.frame_sets.proofs.Laws.{sets_more}
use Rattle.frame_sets.proofs.frames_finite.Goals as goal

pub set_finite-requires : goal.set_finite-requires
set_finite-requires c =
    let at = c.loop-k in
    let frames = c.args.frames.now in
    rw c.record_at.ensures (record_length MOMENTS frames at.k (whole MOMENTS frames at.k (omega arith) c.loop-k-test.true))

pub returns-then-not-set_finite : goal.returns-then-not-set_finite
returns-then-not-set_finite c =
    let frames = c.args.frames.now in
    let at = c.loop-k in
    let more = sets_more frames at.k (whole MOMENTS frames at.k (omega arith) c.loop-k-test.true) in
    let set : all_finite (record_of MOMENTS frames at.k) ≡ false = sym (rw c.record_at.ensures at c.set_finite.ensures) ∙ c.if-not-set_finite.true in
    sym (sym at.invariant ∙ more ∙ rw set)

pub loop-k-preserved : goal.loop-k-preserved
loop-k-preserved c =
    let frames = c.args.frames.now in
    let at = c.loop-k in
    let more = sets_more frames at.k (whole MOMENTS frames at.k (omega arith) c.loop-k-test.true) in
    let set : all_finite (record_of MOMENTS frames at.k) ≡ true = sym (rw c.record_at.ensures at c.set_finite.ensures) ∙ c.if-not-set_finite.false in
    sym (rw set at more) ∙ at.invariant

pub returns : goal.returns
unfolding all_finite
returns c =
    let at = c.loop-k in
    let frames = c.args.frames.now in
    let e : MOMENTS * at.k ≡ length frames = omega (arith, c.requires) in
    rw (e, drop-length) at at.invariant
