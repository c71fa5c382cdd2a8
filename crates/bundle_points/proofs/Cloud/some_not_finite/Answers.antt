-- `bundle_points::Cloud::some_not_finite` meets its contract: by the sums, or by both lists. Assumes nothing.
use mathlib.Core.Path.{sym, ◌∙◌}
use mathlib.Core.List.{◌++◌}
use Rattle.bundle_points.proofs.Laws.{both_whole}
use Rattle.validate.proofs.Laws.{finite_both}
use Rattle.bundle_points.proofs.Finite.{all_finite_lem}
use Rattle.bundle_points.proofs.Cloud.some_not_finite.Goals as goal

pub returns-then-all_finite : goal.returns-then-all_finite
returns-then-all_finite c =
    let s = c.args.self.now in
    let whole = both_whole s.site.now s.fixed.now s.taken.whole s.taken.fixed_whole in
    rw (all_finite_lem (s.site.now ++ s.fixed.now) whole (rw s.summed at (sym c.all_finite.ensures ∙ c.if-all_finite.true)))

pub returns-then-all_finite-2 : goal.returns-then-all_finite-2
returns-then-all_finite-2 c = rw (finite_both _ _, c.all_finite-then-all_finite-2.ensures, ← c.all_finite-2.ensures, c.if-all_finite-2.true)

pub returns-else-all_finite-2 : goal.returns-else-all_finite-2
returns-else-all_finite-2 c = rw (finite_both _ _, ← c.all_finite-2.ensures, c.if-all_finite-2.false)
