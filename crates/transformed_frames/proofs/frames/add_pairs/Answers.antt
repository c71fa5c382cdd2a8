-- `transformed_frames::frames::add_pairs` meets its contract: the frames of the lists from the run's first on are the run's. Assumes nothing.
use mathlib.Core.Path.{refl}
use mathlib.Core.Logic.{inl, inr}
use Rattle.transformed_frames.proofs.Runs.{shape_is, is_five, sized_ready, sized_continued}
use Rattle.transformed_frames.proofs.frames.add_pairs.Goals as goal

pub add_run-requires : goal.add_run-requires
add_run-requires c =
    (inl refl, refl, sized_ready _ _ _ _ _ _ _ _ _ _ c.requires.0 3 (shape_is _ _ _ _ _ c.requires.1 refl c.if-cols-eq3.true) _ (c.within-p.ensures.1 _ refl))

pub returns-then-cols-eq3 : goal.returns-then-cols-eq3
returns-then-cols-eq3 c =
    sized_continued _ _ _ _ _ _ _ _ _ _ c.requires.0 3 (shape_is _ _ _ _ _ c.requires.1 refl c.if-cols-eq3.true) _ (c.within-p.ensures.1 _ refl) _ _ _ _ _ _ _ _ _ c.add_run.ensures

pub add_run-requires-2 : goal.add_run-requires-2
add_run-requires-2 c =
    (inr refl, refl, sized_ready _ _ _ _ _ _ _ _ _ _ c.requires.0 5 (shape_is _ _ _ _ _ c.requires.1 refl (is_five _ c.requires.2 c.if-cols-eq3.false)) _ (c.within-p.ensures.1 _ refl))

pub returns : goal.returns
returns c =
    sized_continued _ _ _ _ _ _ _ _ _ _ c.requires.0 5 (shape_is _ _ _ _ _ c.requires.1 refl (is_five _ c.requires.2 c.if-cols-eq3.false)) _ (c.within-p.ensures.1 _ refl) _ _ _ _ _ _ _ _ _ c.add_run-2.ensures
