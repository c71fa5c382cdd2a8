-- `plane_fit::frame_and_action` meets its contract: the two records, the first one read. Assumes nothing.
use mathlib.Core.Path.{ap, ◌∙◌}
use Rattle.point_moments.specs.Scatter.{centred_of}
use Rattle.plane_fit.proofs.frame_and_action.Goals as goal

pub returns : goal.returns
returns c = (c.from_list.ensures ∙ ap centred_of c.record.ensures, c.record-2.ensures)
