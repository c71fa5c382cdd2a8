-- `cards::card_write` meets its contract: reason 3, then the whole groups, then a last shorter one. Assumes nothing.
use mathlib.Core.Path.{refl, sym, ◌∙◌}
use native.Mathlib.Omega.{arith}
use Rattle.refusals.specs.Refusal.{refused, accepted}
use Rattle.cards.specs.Card.{grouped}
use Rattle.cards.specs.Calls.{card_refusal}
use Rattle.cards.proofs.Lengths.{good_lengths}
use Rattle.cards.proofs.card_write.Goals as goal

pub returns-then-bad_lengths : goal.returns-then-bad_lengths
unfolding card_refusal
returns-then-bad_lengths c = refused (rw (← c.bad_lengths.ensures, c.if-bad_lengths.true))

pub write_groups-requires : goal.write_groups-requires
write_groups-requires c =
    ((good_lengths _ _ (sym c.bad_lengths.ensures ∙ c.if-bad_lengths.false)).2, omega arith)

pub write_last-requires : goal.write_last-requires
unfolding grouped
write_last-requires c = (refl, c.write_groups.ensures)

pub returns : goal.returns
unfolding card_refusal
returns c =
    accepted (rw (← c.bad_lengths.ensures, c.if-bad_lengths.false)) c.write_last.ensures
