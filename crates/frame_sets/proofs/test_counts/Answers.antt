-- `frame_sets::test_counts` meets its contract: 4 and 5 and the point total, by one sum of the frames' counts. Assumes nothing.
use Rattle.frame_sets.specs.Sets.{too_few, points}
use Rattle.frame_sets.proofs.test_counts.Goals as goal

pub returns : goal.returns
unfolding too_few points
returns c =
    let s = c.sum_counts-c.ensures in
    (rw (c.count_refusal.ensures, s.0, s.1), rw (c.point_total.ensures, s.0))
