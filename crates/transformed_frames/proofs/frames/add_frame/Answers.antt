-- `transformed_frames::frames::add_frame` meets its contract: stored and added at the frame's offset; nothing where it has none. Assumes nothing.
use mathlib.Core.Path.{refl}
use Rattle.normal_blocks.proofs.Laws.{fits_at}
use Rattle.frame_blocks.specs.Frames.{nowhere}
use Rattle.transformed_frames.proofs.Laws.{frame_added, frame_mapped, frame_unmapped}
use Rattle.transformed_frames.proofs.frames.add_frame.Goals as goal

pub store-requires : goal.store-requires
store-requires c =
    let pre = c.requires in
    (pre.0, c.stride_of-stride.ensures.0, c.stride_of-stride.ensures.1, pre.3)

pub add_stored-requires : goal.add_stored-requires
add_stored-requires c =
    let pre = c.requires in
    (pre.0, c.stride_of-stride.ensures.0, c.stride_of-stride.ensures.1, fits_at _ _ _ _ c.in-Some.is pre.1, pre.2, refl, pre.4)

pub returns-in-Some : goal.returns-in-Some
returns-in-Some c =
    frame_mapped _ _ _ _ _ _ _ _ _ _ _ _ c.in-Some.is
    (frame_added _ _ _ _ _ _ _ _ _ _ _ _ _ _ _ _ _ _ (λ rows cols is. (c.requires.4 rows cols is).1) c.store.ensures c.add_stored.ensures)

pub returns-in_default : goal.returns-in_default
returns-in_default c = frame_unmapped _ _ _ _ _ _ _ _ _ (nowhere _ c.in_default.not-Some)
