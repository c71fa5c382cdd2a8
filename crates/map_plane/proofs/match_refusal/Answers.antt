-- `map_plane::match_refusal` meets its contract: the tests in their order. Assumes nothing.
use mathlib.Core.Path.{sym, ◌∙◌}
use Rattle.validate.specs.Finite.{all_finite}
use Rattle.map_plane.specs.Match.{bad_point, bad_sigma}
use Rattle.map_plane.proofs.match_refusal.Goals as goal

pub returns-then-not-is_finite : goal.returns-then-not-is_finite
unfolding bad_point bad_sigma all_finite
returns-then-not-is_finite c =
    rw (sym c.is_finite.ensures ∙ c.if-not-is_finite.true)

pub returns-then-not-is_finite-2 : goal.returns-then-not-is_finite-2
unfolding bad_point bad_sigma all_finite
returns-then-not-is_finite-2 c =
    rw (sym c.is_finite.ensures ∙ c.if-not-is_finite.false, sym c.is_finite-2.ensures ∙ c.if-not-is_finite-2.true)

pub returns-then-not-is_finite-3 : goal.returns-then-not-is_finite-3
unfolding bad_point bad_sigma all_finite
returns-then-not-is_finite-3 c =
    rw (
      sym c.is_finite.ensures ∙ c.if-not-is_finite.false,
      sym c.is_finite-2.ensures ∙ c.if-not-is_finite-2.false,
      sym c.is_finite-3.ensures ∙ c.if-not-is_finite-3.true,
    )

pub returns-then-not-is_positive : goal.returns-then-not-is_positive
unfolding bad_point bad_sigma all_finite
returns-then-not-is_positive c =
    rw (
      sym c.is_finite.ensures ∙ c.if-not-is_finite.false,
      sym c.is_finite-2.ensures ∙ c.if-not-is_finite-2.false,
      sym c.is_finite-3.ensures ∙ c.if-not-is_finite-3.false,
      sym c.is_positive.ensures ∙ c.if-not-is_positive.true,
    )

pub returns : goal.returns
unfolding bad_point bad_sigma all_finite
returns c =
    rw (
      sym c.is_finite.ensures ∙ c.if-not-is_finite.false,
      sym c.is_finite-2.ensures ∙ c.if-not-is_finite-2.false,
      sym c.is_finite-3.ensures ∙ c.if-not-is_finite-3.false,
      sym c.is_positive.ensures ∙ c.if-not-is_positive.false,
    )
