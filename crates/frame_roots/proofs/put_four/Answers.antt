-- `frame_roots::put_four` meets its contract: the part that is stored into has the four numbers. Assumes nothing.
use Rattle.std.proofs.Common.{sym, ◌∙◌, arith}
use Rattle.sums.specs.Laws.{tab-get_or}
use Rattle.frame_roots.proofs.Puts.{part-put}
use Rattle.frame_roots.proofs.put_four.Goals as goal

pub returns : goal.returns
returns c = part-put _ _ c.args.at _ 4 _ (omega arith) (c.store.ensures ∙ sym (tab-get_or 4 c.args.v (omega arith)))
