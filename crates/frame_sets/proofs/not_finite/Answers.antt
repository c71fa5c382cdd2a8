-- `frame_sets::not_finite` meets its contract: the frames, then the fixed set if there is one. Assumes nothing.
use mathlib.Core.Path.{sym, ◌∙◌}
use Rattle.frame_sets.specs.Sets.{not_finite}
use Rattle.frame_sets.proofs.Laws.{none_finite}
use Rattle.frame_sets.proofs.not_finite.Goals as goal

pub returns-then-not-frames_finite : goal.returns-then-not-frames_finite
unfolding not_finite
returns-then-not-frames_finite c = rw (sym c.frames_finite.ensures ∙ c.if-not-frames_finite.true)

pub returns-then-fixed-eq0 : goal.returns-then-fixed-eq0
unfolding not_finite
returns-then-fixed-eq0 c =
    rw (sym c.frames_finite.ensures ∙ c.if-not-frames_finite.false, none_finite _ c.if-fixed-eq0.true)

pub returns : goal.returns
unfolding not_finite
returns c =
    rw (c.set_finite.ensures, sym c.frames_finite.ensures ∙ c.if-not-frames_finite.false)
