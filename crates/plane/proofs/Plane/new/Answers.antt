-- `plane::Plane::new` meets its contract: one test of the norm, and four quotients. Assumes nothing.
use mathlib.Core.Path.{◌≡◌, sym, ◌∙◌}
use mathlib.Core.Bool.{true, false}
use Rattle.validate.specs.Finite.{finite_above}
use Rattle.plane.specs.Plane.{least_norm, plane_new}
use Rattle.plane.proofs.Plane.new.Goals as goal

pub returns-then-not-is_above : goal.returns-then-not-is_above
unfolding plane_new
returns-then-not-is_above c =
    let no : finite_above least_norm c.sqrt-norm.result ≡ false = sym c.is_above.ensures ∙ c.if-not-is_above.true in
    rw (← c.dot3.ensures, ← c.sqrt-norm.ensures, no)

pub returns : goal.returns
unfolding plane_new
returns c =
    let yes : finite_above least_norm c.sqrt-norm.result ≡ true = sym c.is_above.ensures ∙ c.if-not-is_above.false in
    rw (c.divided.ensures, ← c.dot3.ensures, ← c.sqrt-norm.ensures, yes)
