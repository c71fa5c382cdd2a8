-- `frame_blocks::add_frame` meets its contract: block and vector at the frame's offset, nothing where it has none. Assumes nothing.
use mathlib.Core.Path.{refl}
use Rattle.normal_blocks.proofs.Laws.{fits_at}
use Rattle.frame_blocks.specs.Frames.{nowhere, frame_mapped, frame_unmapped}
use Rattle.frame_blocks.proofs.add_frame.Goals as goal

pub add_at-requires : goal.add_at-requires
add_at-requires g c =
    let pre = c.requires in
    (pre.0, fits_at _ _ _ _ c.in-Some.is pre.1, pre.2, refl, pre.3)

pub returns-in-Some : goal.returns-in-Some
returns-in-Some g c =
    frame_mapped _ _ _ _ _ _ _ _ _ _ _ _ _ c.in-Some.is c.add_at.ensures

pub returns-in_default : goal.returns-in_default
returns-in_default g c = frame_unmapped _ _ _ _ _ _ _ _ _ _ (nowhere _ c.in_default.not-Some)
