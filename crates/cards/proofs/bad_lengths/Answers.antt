-- `cards::bad_lengths` meets its contract. Assumes nothing.
use mathlib.Core.Path.{sym, ap, ◌∙◌}
use mathlib.Core.Bool.{not}
use Rattle.std.proofs.lemmas.Bool.{false≢true}
use borrow.Author.Tests.{eq-eqb, ne_eqb}
use Rattle.cards.specs.Calls.{bad_lengths}
use Rattle.cards.proofs.bad_lengths.Goals as goal
use Rattle.cards.proofs.bad_lengths.Goals.{then-from-ne0, else-from-ne0}

pub returns-then-from-gt-MOST_RECORDS : goal.returns-then-from-gt-MOST_RECORDS
unfolding bad_lengths
returns-then-from-gt-MOST_RECORDS c =
    let is = c.if-from-gt-MOST_RECORDS.true in
    elim c.if-from-ne0.branch [
      | then-from-ne0 w ↦ rw (ne_eqb _ _ w.if-from-ne0.true) is
      | else-from-ne0 w ↦ rw (eq-eqb _ _ w.if-from-ne0.false, sym w.value-is ∙ is) is
    ]

pub returns-else-from-gt-MOST_RECORDS : goal.returns-else-from-gt-MOST_RECORDS
unfolding bad_lengths
returns-else-from-gt-MOST_RECORDS c =
    let is = c.if-from-gt-MOST_RECORDS.false in
    elim c.if-from-ne0.branch [
      | then-from-ne0 w ↦ absurd (false≢true (sym is ∙ w.value-is ∙ ap not (ne_eqb _ _ w.if-from-ne0.true)))
      | else-from-ne0 w ↦ rw (eq-eqb _ _ w.if-from-ne0.false, sym w.value-is ∙ is)
    ]
