-- `transformed_frames::frames::add_sized` meets its contract: either way to add the frames does. Assumes nothing.
use mathlib.Core.Path.{refl}
use Rattle.transformed_frames.proofs.Runs.{shape_is}
use Rattle.transformed_frames.proofs.frames.add_sized.Goals as goal

pub add_pairs-requires : goal.add_pairs-requires
add_pairs-requires c =
    let thin = c.in_pairs.ensures c.if-in_pairs.true in
    (c.requires.0, shape_is _ c.args.s.rows c.args.s.cols _ _ c.requires.1 thin.0 refl, thin.1)
