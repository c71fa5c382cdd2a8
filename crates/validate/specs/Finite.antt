-- Which numbers are finite, and which are finite and positive. `proofs/Laws.antt` has what callers go by. Definitions only.
use Rattle.std.specs.Prelude.{Bool, true, ◌&&◌, List, [], ◌∷◌, Float}
use Rattle.std.specs.Float.{binary64}
use Rattle.std.specs.Float.Ieee.{of_bits, lt}
use Rattle.std.specs.Float.Ieee.Scale.{finite}

-- every number of a list is finite: neither a NaN nor an infinity
unfoldable pub all_finite : List Float → Bool
all_finite [] = true
all_finite (x ∷ l) = finite x && all_finite l

-- finite, and above a bound
unfoldable pub finite_above : Float → Float → Bool
finite_above bound x = finite x && lt bound x

-- finite and positive
abbrev pub finite_positive : Float → Bool
finite_positive x = finite_above (of_bits binary64 0) x
