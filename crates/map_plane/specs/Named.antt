-- A match by its parts, and what is said of a list's numbers said of the parts. Definitions only.
use Rattle.std.specs.Prelude.{ℕ, ◌++◌, List, Float}
use Rattle.std.specs.Float.{binary64}
use Rattle.std.specs.Float.Ieee.{div}
use Rattle.sums.specs.Sum.{◌⊕◌, ◌⊗◌, dot, tab}
use Rattle.lists.specs.Part.{◌!◌}
use Rattle.map_plane.specs.declared.Match.{Match}
use Rattle.map_plane.specs.Match.{point, normal, offset, sigma, one}
use Rattle.map_plane.specs.Linearize.{EXTRINSIC, projected, state_column}

-- the parts of a match of a list
abbrev pub match_of : List Float → Match
match_of m = record { point = point m; plane = record { normal = normal m; offset = offset m }; sigma = sigma m }

-- `residual` of Linearize.antt, and `whole_row`
abbrev pub residual_of : Match → List Float → Float
residual_of m w = div binary64 one m.sigma ⊗ (dot 3 m.plane.normal w ⊕ m.plane.offset)

abbrev pub row_of : Match → ℕ → List Float → List Float → List Float
row_of m dof state extrinsic =
    tab dof (state_column (div binary64 one m.sigma) m.plane.normal state)
    ++ tab EXTRINSIC (projected (tab 3 (λ r. div binary64 one m.sigma ⊗ m.plane.normal ! r)) extrinsic)
