-- `frame_pairs::parts` meets its contract: after q turns the parts of the first q frames are there. Assumes nothing.
use mathlib.Core.Path.{◌≡◌, ◌∙◌}
use native.Mathlib.Omega.{arith}
use Rattle.std.proofs.lemmas.List.{length-replicate}
use Rattle.frame_pairs.proofs.Lanes.{parts_none, parts_more}
use Rattle.frame_pairs.proofs.parts.Goals as goal

pub part-requires : goal.part-requires
part-requires g c =
    (c.requires.0, omega arith, omega arith, c.loop-q.invariant.long)

pub loop-q-preserved : goal.loop-q-preserved
loop-q-preserved g c =
    let l = c.loop-q in
    let few = c.requires.2 in
    parts_more _ _ _ _ _ _ _ l.q _ _ (omega (arith, few, c.loop-q-test.true)) c.frame_and_action.ensures.1 c.frame_and_action.ensures.0 c.part.ensures l.invariant

pub returns : goal.returns
returns g c =
    let l = c.loop-q in
    let e : l.q ≡ c.args.size = omega arith in
    rw e at l.invariant

pub loop-q-init : goal.loop-q-init
loop-q-init g c = parts_none _ _ _ _ _ _ _ _ (length-replicate _ _ ∙ c.requires.1)
