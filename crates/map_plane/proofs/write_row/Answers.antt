-- `map_plane::write_row` meets its contract: the state's columns, then the extrinsic ones. Assumes nothing.
use mathlib.Core.Path.{◌∙◌}
use lib.Ieee.{binary64, div}
use Rattle.sums.specs.Sum.{◌⊗◌, tab}
use Rattle.lists.specs.Part.{◌!◌}
use Rattle.map_plane.specs.Match.{one}
use Rattle.map_plane.specs.Linearize.{EXTRINSIC, projected, state_column, two_parts}
use borrow.Author.Rules.{rules}
use Rattle.map_plane.proofs.write_row.Goals as goal

pub returns : goal.returns
returns c =
    let a = c.args in
    let m = a.matched in
    let first = rw c.information-info.ensures at c.write_state.ensures.0 in
    let rest = rw c.information-info.ensures at c.write_extrinsic.ensures in
    rest ∙ two_parts a.width EXTRINSIC _ (state_column (div binary64 one m.sigma) m.plane.normal a.d_state.now) (projected (tab 3 (λ r. div binary64 one m.sigma ⊗ m.plane.normal ! r)) a.d_extrinsic.now) (c.write_state.ensures.1 ∙ search rules) first
