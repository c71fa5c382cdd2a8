-- `strict_build::is_negative` meets its contract: by the fixed count. Assumes nothing.
use Rattle.strict_build.specs.Strict.{negative}
use Rattle.strict_build.proofs.is_negative.Goals as goal

pub returns : goal.returns
unfolding negative
returns c = rw c.fixed_count-count.ensures

pub fixed_count-count-requires : goal.fixed_count-count-requires
fixed_count-count-requires c = c.requires
