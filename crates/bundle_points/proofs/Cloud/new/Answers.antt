-- `bundle_points::Cloud::new` meets its contract: the site points are summed, then the fixed ones. Assumes nothing.
use Rattle.bundle_points.proofs.Laws.{sums_by}
use Rattle.bundle_points.proofs.Cloud.new.Goals as goal

pub invariant_of-result : goal.invariant_of-result
invariant_of-result c = record {
  taken = c.requires;
  summed = sums_by c.args.site.now c.args.fixed.now c.requires.whole c.requires.fixed_whole _ _ c.add_points-first.ensures c.add_points.ensures;
}
