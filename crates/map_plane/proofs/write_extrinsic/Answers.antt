-- `map_plane::write_extrinsic` meets its contract: column after column. Assumes nothing.
use Rattle.sums.specs.Fill.{writing_none, writing_more, writing_all}
use borrow.Author.Rules.{rules}
use Rattle.map_plane.proofs.write_extrinsic.Goals as goal

pub loop-c-preserved : goal.loop-c-preserved
loop-c-preserved c = writing_more _ _ _ _ _ _ _ (search rules) (search rules) c.project.ensures c.loop-c.invariant

pub returns : goal.returns
returns c = writing_all _ _ _ _ _ _ (search rules) c.loop-c.invariant

pub loop-c-init : goal.loop-c-init
loop-c-init c = writing_none _ _ _ _
