-- `plane_bundle::Call::shape_refusal` meets its contract: the tests in their order; the site points are as many as the counts say. Assumes nothing.
use Prim.Native.Nat.{ℕ, ◌+◌}
use mathlib.Core.Path.{◌≡◌, sym, ◌∙◌}
use mathlib.Core.Bool.{Bool, false}
use mathlib.Core.List.{List}
use lib.ListN.{length}
use lib.Ieee.{Float}
use borrow.Author.Tests.{lt-ltb, le-ltb}
use Rattle.bundle_points.specs.Points.{point_count}
use Rattle.bundle_rows.specs.Rows.{total}
use Rattle.plane_bundle.specs.Calls.{row_count, bad_points}
use Rattle.plane_bundle.specs.Given.{bundle_of}
use Rattle.plane_bundle.specs.Steps.{shape_refusal, linearize_shape, bad_sizes}
use Rattle.plane_bundle.proofs.Laws.{shaped, counts_by}
use borrow.Author.Rules.{rules}
use Rattle.plane_bundle.proofs.Call.shape_refusal.Goals as goal
use Rattle.plane_bundle.proofs.Call.shape_refusal.Goals.{After-bad_sizes, Else-bad}

-- the sizes by the lengths of the lists
sizes_by : (counts : List ℕ) (points fixed : List Float) (dof state patterns residuals cells : ℕ) (bad : Bool) → bad_points counts points fixed ≡ false
    → bad ≡ bad_sizes dof (length counts) (point_count points) (point_count points + point_count fixed) state patterns residuals cells
    → bad_sizes dof (length counts) (total counts) (row_count counts fixed) state patterns residuals cells ≡ bad
sizes_by counts points fixed dof state patterns residuals cells bad good e = rw (e, (shaped counts points fixed good).counted)

pub returns-then-self-gt-MOST_DOF : goal.returns-then-self-gt-MOST_DOF
unfolding linearize_shape
returns-then-self-gt-MOST_DOF c = rw (lt-ltb _ _ c.if-self-gt-MOST_DOF.true)

pub returns-then-is_empty : goal.returns-then-is_empty
unfolding linearize_shape shape_refusal
returns-then-is_empty c = rw (le-ltb _ _ c.if-self-gt-MOST_DOF.false, sym c.is_empty.ensures ∙ c.if-is_empty.true)

pub returns-then-bad : goal.returns-then-bad
unfolding linearize_shape shape_refusal
returns-then-bad c =
    rw (le-ltb _ _ c.if-self-gt-MOST_DOF.false, sym c.is_empty.ensures ∙ c.if-is_empty.false, sym c.bad.ensures ∙ c.if-bad.true)

-- where 3 does not apply to counts and points
good : (g : Else-bad) → let a = g.args.self.now.points in bad_points a.counts.now a.site.now a.fixed.now ≡ false
good g = sym g.bad.ensures ∙ g.if-bad.false

sizes : (r : After-bad_sizes) → let b = bundle_of r.args.self.now in
    bad_sizes b.dof (length b.counts) (total b.counts) (row_count b.counts b.fixed) (length b.d_state) (length b.decomposition) r.args.residuals r.args.cells ≡ r.bad_sizes.result
sizes r =
    let b = bundle_of r.args.self.now in
    sizes_by b.counts b.points b.fixed b.dof (length b.d_state) (length b.decomposition) r.args.residuals r.args.cells _ (good (goal.at.After-bad_sizes r).Else-bad) r.bad_sizes.ensures

pub bad_sizes-requires : goal.bad_sizes-requires
bad_sizes-requires c =
    let a = c.args.self.now.points in
    let s = shaped a.counts.now a.site.now a.fixed.now (good c) in
    (search rules, s.frames, s.taken.few)

pub returns-then-bad_sizes : goal.returns-then-bad_sizes
unfolding linearize_shape shape_refusal
returns-then-bad_sizes c =
    rw (le-ltb _ _ c.if-self-gt-MOST_DOF.false, sym c.is_empty.ensures ∙ c.if-is_empty.false, good (goal.at.returns-then-bad_sizes c).Else-bad, sizes (goal.at.returns-then-bad_sizes c).After-bad_sizes, c.if-bad_sizes.true)

pub returns : goal.returns
unfolding linearize_shape
returns c =
    let a = c.args.self.now.points in
    rw (le-ltb _ _ c.if-self-gt-MOST_DOF.false) (c.count_refusal.ensures ∙ counts_by a.counts.now a.site.now a.fixed.now (good (goal.at.returns c).Else-bad) _ (sizes (goal.at.returns c).After-bad_sizes ∙ c.if-bad_sizes.false) (sym c.is_empty.ensures ∙ c.if-is_empty.false))
