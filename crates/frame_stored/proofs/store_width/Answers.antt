-- `frame_stored::store_width` meets its contract: of the frame's rows, block and vector are the frame's. Assumes nothing.
use mathlib.Core.Path.{refl}
use Rattle.frame_stored.proofs.Laws.{stores}
use Rattle.frame_stored.proofs.store_width.Goals as goal

pub returns : goal.returns
returns c =
    stores _ _ _ _ _ _ _ refl c.frame_and_action.ensures.0 c.frame_and_action.ensures.1 c.of_frame-r.ensures c.vector-v.ensures c.store_rows.ensures
