-- `plane_bundle::Points::bad` meets its contract: the four tests in their order. Assumes nothing.
use borrow.Author.Tests.{lt-ltb, le-ltb, eq-eqb, ne_eqb}
use Rattle.plane_bundle.specs.Calls.{bad_points}
use Rattle.plane_bundle.proofs.Points.bad.Goals as goal

pub returns-then-self-gt-MOST_FRAMES : goal.returns-then-self-gt-MOST_FRAMES
unfolding bad_points
returns-then-self-gt-MOST_FRAMES c = rw (lt-ltb _ _ c.if-self-gt-MOST_FRAMES.true)

pub returns-then-self-site : goal.returns-then-self-site
unfolding bad_points
returns-then-self-site c =
    rw (le-ltb _ _ c.if-self-gt-MOST_FRAMES.false, ← c.total-site.ensures.0, ne_eqb _ _ c.if-self-site.true)

pub returns-then-self-ne0 : goal.returns-then-self-ne0
unfolding bad_points
returns-then-self-ne0 c =
    rw (le-ltb _ _ c.if-self-gt-MOST_FRAMES.false, ← c.total-site.ensures.0, eq-eqb _ _ c.if-self-site.false, ne_eqb _ _ c.if-self-ne0.true)

pub returns : goal.returns
unfolding bad_points
returns c =
    rw (le-ltb _ _ c.if-self-gt-MOST_FRAMES.false, ← c.total-site.ensures.0, eq-eqb _ _ c.if-self-site.false, eq-eqb _ _ c.if-self-ne0.false)
