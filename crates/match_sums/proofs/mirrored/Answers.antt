-- `match_sums::mirrored` meets its contract: filled column by column. Assumes nothing.
use Rattle.lists.specs.Part.{◌!◌}
use Prim.Native.Nat.{◌+◌, ◌*◌}
use mathlib.Core.Path.{◌≡◌, refl, ap}
use native.Mathlib.Nat.{add-zero}
use native.Mathlib.Omega.{arith}
use lib.ListN.{get_or}
use lib.Ieee.{nan}
use Rattle.sums.specs.Laws.{grid_more, grid_all}
use Rattle.match_sums.specs.Cells.{upper_place}
use borrow.Author.Rules.{rules}
use Rattle.match_sums.proofs.mirrored.Goals as goal

pub loop-j-init : goal.loop-j-init
loop-j-init c = (search rules, refl)

pub loop-i-init : goal.loop-i-init
loop-i-init c = (c.loop-j.invariant.0, rw add-zero c.loop-j.invariant.1)

pub loop-i-preserved : goal.loop-i-preserved
loop-i-preserved c =
    let at = c.loop-i in
    let j = c.loop-j.j in
    let h = c.args.h.now in
    let next : j * 9 + (at.i + 1) ≡ j * 9 + at.i + 1 = omega arith in
    (search rules, rw next (grid_more 9 9 (λ i j. h ! upper_place i j) at.out (j * 9 + at.i) at.i j _ (search rules) (search rules) refl at.invariant.0 (ap (λ p. get_or h p nan) c.upper_place.ensures.0) at.invariant.1))

pub loop-j-preserved : goal.loop-j-preserved
loop-j-preserved c =
    let ends : (c.loop-j.j + 1) * 9 ≡ c.loop-j.j * 9 + c.loop-i.i = omega arith in
    (c.loop-i.invariant.0, rw ends c.loop-i.invariant.1)

pub returns : goal.returns
returns c =
    let at = c.loop-j in
    let h = c.args.h.now in
    grid_all 9 9 (λ i j. h ! upper_place i j) at.out (at.j * 9) (omega arith) at.invariant.0 at.invariant.1
