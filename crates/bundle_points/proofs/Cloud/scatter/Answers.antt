-- `bundle_points::Cloud::scatter` meets its contract: the six sums, divided. Assumes nothing.
use mathlib.Core.Path.{◌∙◌, ap}
use Rattle.bundle_points.specs.Points.{number_of}
use Rattle.bundle_points.proofs.Laws.{scatter_by}
use Rattle.bundle_points.proofs.Cloud.scatter.Goals as goal

pub returns : goal.returns
returns c =
    let s = c.args.self.now in
    scatter_by s.site.now s.fixed.now s.taken.whole s.taken.fixed_whole c.args.q _ _ _ (c.number-n.ensures ∙ ap number_of c.count.ensures) c.add_spread-site.ensures c.add_spread-all.ensures
