-- A match: a point, the map plane that it is held against, and the standard deviation of its distance from it. Definitions only.
use Rattle.std.specs.Prelude.{ℕ, ◌*◌, Bool, not, List, [], ◌∷◌, Float}
use Rattle.std.specs.Float.{binary64}
use Rattle.std.specs.Float.Ieee.{of_bits, div}
use Rattle.refusals.specs.Refusal.{Reason, ◌when◌}
use Rattle.lists.specs.Part.{◌!◌, part}
use Rattle.validate.specs.Finite.{all_finite, finite_positive}

-- how many numbers a match is
abbrev pub MATCH : ℕ
MATCH = 8

-- match k of a list of them
abbrev pub match_at : List Float → ℕ → List Float
match_at ms k = part MATCH ms (k * MATCH)

-- the point, the plane's normal and offset, and sigma
abbrev pub point : List Float → List Float
point m = part 3 m 0

abbrev pub normal : List Float → List Float
normal m = part 3 m 3

abbrev pub offset : List Float → Float
offset m = m ! 6

abbrev pub sigma : List Float → Float
sigma m = m ! 7

abbrev pub one : Float
one = of_bits binary64 0x3ff0_0000_0000_0000

-- information = 1/sigma
abbrev pub information : List Float → Float
information m = div binary64 one (sigma m)

-- 6: a coordinate of the point is not finite. 7: sigma is not finite and positive. Neither looks at the normal and the offset
unfoldable pub bad_point : List Float → Bool
bad_point m = not (all_finite (point m))

unfoldable pub bad_sigma : List Float → Bool
bad_sigma m = not (finite_positive (sigma m))

abbrev pub match_reasons : List Float → List Reason
match_reasons m = 6 when bad_point m ∷ 7 when bad_sigma m ∷ []
