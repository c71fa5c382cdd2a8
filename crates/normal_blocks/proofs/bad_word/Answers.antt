-- `normal_blocks::bad_word` meets its contract: a word is bad if it is above the unmapped one. Assumes nothing.
use Rattle.normal_blocks.proofs.Laws.{bad_is}
use Rattle.normal_blocks.proofs.bad_word.Goals as goal

pub returns : goal.returns
returns c = bad_is c.args.w
