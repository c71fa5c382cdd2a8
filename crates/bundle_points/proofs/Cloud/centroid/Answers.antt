-- `bundle_points::Cloud::centroid` meets its contract: the sums, divided. Assumes nothing.
use mathlib.Core.Path.{◌∙◌, ap}
use Rattle.bundle_points.specs.Points.{number_of}
use Rattle.bundle_points.proofs.Laws.{centroid_by}
use Rattle.bundle_points.proofs.Cloud.centroid.Goals as goal

pub returns : goal.returns
returns c =
    let s = c.args.self.now in
    c.divided.ensures ∙ centroid_by s.site.now s.fixed.now s.taken.whole s.taken.fixed_whole s.sums _ s.summed (c.number.ensures ∙ ap number_of c.count.ensures)
