-- `cards::card_read` meets its contract: reason 3, then the whole groups, then a last shorter one. Assumes nothing.
use mathlib.Core.Path.{refl, sym, ◌∙◌}
use native.Mathlib.Omega.{arith}
use Rattle.refusals.specs.Refusal.{refused, accepted}
use Rattle.cards.specs.Card.{grouped}
use Rattle.cards.specs.Calls.{card_refusal}
use Rattle.cards.proofs.Lengths.{good_lengths}
use Rattle.cards.proofs.card_read.Goals as goal

pub returns-then-bad_lengths : goal.returns-then-bad_lengths
unfolding card_refusal
returns-then-bad_lengths c = refused (rw (← c.bad_lengths.ensures, c.if-bad_lengths.true))

pub read_groups-requires : goal.read_groups-requires
read_groups-requires c =
    (sym (good_lengths _ _ (sym c.bad_lengths.ensures ∙ c.if-bad_lengths.false)).2, omega arith)

pub read_last-requires : goal.read_last-requires
unfolding grouped
read_last-requires c = (refl, c.read_groups.ensures)

pub returns : goal.returns
unfolding card_refusal
returns c =
    accepted (rw (← c.bad_lengths.ensures, c.if-bad_lengths.false)) c.read_last.ensures
