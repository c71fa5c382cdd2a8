-- `transformed_frames::frames::add_run` meets its contract: the frames as they are, or through their transforms. Assumes nothing.
use mathlib.Core.Path.{refl, sym, ◌∙◌}
use Rattle.transformed_frames.proofs.Runs.{plain_ready, plain_continued}
use Rattle.transformed_frames.proofs.frames.add_run.Goals as goal

pub add_run-requires : goal.add_run-requires
add_run-requires c =
    plain_ready _ _ _ _ _ _ _ _ _ _ c.requires (sym c.shape_at.ensures ∙ c.in-None.is) _ (c.within-p.ensures.1 _ refl)

pub add_sized-requires : goal.add_sized-requires
add_sized-requires c =
    (c.requires, sym c.shape_at.ensures ∙ c.in-Some.is)

pub returns-in-None : goal.returns-in-None
returns-in-None c =
    plain_continued _ _ _ _ _ _ _ _ _ _ c.requires (sym c.shape_at.ensures ∙ c.in-None.is) _ (c.within-p.ensures.1 _ refl) _ _ _ _ _ _ _ _ _ c.add_run.ensures
