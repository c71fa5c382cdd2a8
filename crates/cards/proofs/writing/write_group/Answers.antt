-- `cards::writing::write_group` meets its contract: each pair of records goes on where the one before it ended. Assumes nothing.
use native.Mathlib.Nat.{add-zero}
use borrow.Author.Rules.{rules}
use Rattle.cards.proofs.writing.write_group.Goals as goal

pub write_two-requires : goal.write_two-requires
write_two-requires c = let pre = c.requires in (pre.0, search rules, rw add-zero pre.1)
