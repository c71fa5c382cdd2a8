-- `transformed_frames::accumulate::accumulate` meets its contract: refused, or added. Assumes nothing.
use borrow.Author.Rules.{rules}
use Rattle.plane_moments.proofs.Accumulating.{refused_call}
use Rattle.transformed_frames.proofs.accumulate.accumulate.Goals as goal

pub returns-in_err-refusal : goal.returns-in_err-refusal
returns-in_err-refusal c = refused_call _ _ _ _ _ (search rules) (search rules)

pub returns : goal.returns
returns c = c.add_fitted.ensures _
