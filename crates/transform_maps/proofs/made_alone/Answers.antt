-- `transform_maps::made_alone` meets its contract: the numbers of the further transform, and +0 behind them. Assumes nothing.
use Rattle.transform_maps.proofs.Laws.{front_padded}
use Rattle.transform_maps.proofs.made_alone.Goals as goal

pub returns : goal.returns
returns c = front_padded _ _ c.args.further.now _ c.requires.0 c.requires.1 c.copy_from_slice.ensures.after
