-- `counts::push_saturates` meets its contract: one comparison is the definition. Assumes nothing.
use Rattle.counts.proofs.Tests.{push_test}
use Rattle.counts.proofs.push_saturates.Goals as goal

pub returns : goal.returns
returns c = push_test c.args.count
