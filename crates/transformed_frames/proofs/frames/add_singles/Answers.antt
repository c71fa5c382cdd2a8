-- `transformed_frames::frames::add_singles` meets its contract: each turn adds one frame more after those before it. Assumes nothing.
use mathlib.Core.Path.{◌≡◌, refl, ◌∙◌}
use native.Mathlib.Omega.{arith}
use Rattle.transformed_frames.proofs.Laws.{continued_none, continued_more, ready_fits, ready_there, ready_held, ready_square}
use Rattle.transformed_frames.proofs.frames.add_singles.Goals as goal

pub loop-k-init : goal.loop-k-init
loop-k-init c = (refl, refl, continued_none _ _ _ _ _ _ _ _ _ _ _ _ _ _)

pub pull_at-p-requires : goal.pull_at-p-requires
pull_at-p-requires c =
    ready_held _ _ _ _ _ _ _ _ c.requires.0 _ (omega (arith, c.requires.2))

pub add_frame-requires : goal.add_frame-requires
add_frame-requires c =
    let l = c.loop-k in
    let pre = c.requires in
    let ready = pre.0 in
    let here = c.loop-k-test.true in (
      ready.narrow,
      ready_fits _ _ _ _ _ _ _ _ ready _ _ _ _ l.invariant.1 c.lookup-place.ensures c.shape_at-s.ensures (omega (arith, here, pre.2)),
      ready_square _ _ _ _ _ _ _ _ ready _ _ l.invariant.0 l.invariant.1,
      ready_held _ _ _ _ _ _ _ _ ready _ (omega (arith, here, pre.2)),
      ready_there _ _ _ _ _ _ _ _ ready _ _ c.shape_at-s.ensures,
    )

pub loop-k-preserved : goal.loop-k-preserved
loop-k-preserved c =
    let l = c.loop-k in (
      c.add_frame.auto.h ∙ l.invariant.0,
      c.add_frame.auto.g ∙ l.invariant.1,
      continued_more _ _ _ _ _ _ _ _ _ _ _ _ _ _ l.k _ _ _ _ l.sum l.h _ l.g _ (omega arith) l.invariant.1 c.lookup-place.ensures c.shape_at-s.ensures c.pull_at-p.ensures c.add_frame.ensures l.invariant.2,
    )

pub returns : goal.returns
returns c =
    let l = c.loop-k in
    let e : l.k ≡ c.args.end = omega (arith, c.requires.1) in
    rw e at l.invariant.2
