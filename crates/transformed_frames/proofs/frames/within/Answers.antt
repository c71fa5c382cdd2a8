-- `transformed_frames::frames::within` meets its contract: past a list's end nothing is left of it. Assumes nothing.
use borrow.Author.Rules.{rules}
use Rattle.transformed_frames.proofs.Runs.{drop_past}
use Rattle.transformed_frames.proofs.frames.within.Goals as goal

pub returns : goal.returns
returns c = (search rules, λ l e. drop_past _ _ l e c.if-first-size.false)
