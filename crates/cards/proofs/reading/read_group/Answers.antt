-- `cards::reading::read_group` meets its contract: each pair of records goes on where the one before it ended. Assumes nothing.
use native.Mathlib.Nat.{add-zero}
use borrow.Author.Rules.{rules}
use Rattle.cards.proofs.reading.read_group.Goals as goal

pub read_two-requires : goal.read_two-requires
read_two-requires c = let pre = c.requires in (pre.0, search rules, rw add-zero pre.1)
