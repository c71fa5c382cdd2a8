-- `exported_calls::four_calls` meets its contract: what each exported contract says of the two slices, one after the other. Assumes nothing.
use mathlib.Core.Path.{refl, ◌∙◌}
use Rattle.exported_calls.specs.Laws.{in_a_row}
use Rattle.exported_calls.proofs.four_calls.Goals as goal

pub shape_of-hessian : goal.shape_of-hessian
shape_of-hessian c =
    c.maghnelt_matches_accumulate-four.auto.hessian
    ∙ c.maghnelt_frames_accumulate_transformed-three.auto.hessian
    ∙ c.maghnelt_matches_accumulate_transformed-two.auto.hessian
    ∙ c.maghnelt_frames_accumulate-one.auto.hessian

pub shape_of-gradient : goal.shape_of-gradient
shape_of-gradient c =
    c.maghnelt_matches_accumulate-four.auto.gradient
    ∙ c.maghnelt_frames_accumulate_transformed-three.auto.gradient
    ∙ c.maghnelt_matches_accumulate_transformed-two.auto.gradient
    ∙ c.maghnelt_frames_accumulate-one.auto.gradient

pub returns : goal.returns
returns c =
    let one = c.maghnelt_frames_accumulate-one in
    let two = c.maghnelt_matches_accumulate_transformed-two in
    let three = c.maghnelt_frames_accumulate_transformed-three in
    let four = c.maghnelt_matches_accumulate-four in
    in_a_row (_, _, one.ensures.ran, (_, _, two.ensures.ran, (_, _, three.ensures.ran, (_, _, four.ensures.ran, (refl, refl)))))
    (one.ensures.kept, (two.ensures.kept, (three.ensures.kept, (four.ensures.kept, tt))))
