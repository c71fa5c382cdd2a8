-- `frame_sets::set_finite` meets its contract: the record's numbers in their order, four, four, four and one. Assumes nothing.
use mathlib.Core.Path.{◌≡◌, sym, ◌∙◌}
use mathlib.Core.Bool.{true, false}
use Rattle.frame_sets.proofs.Laws.{four, in_fours}
use Rattle.frame_sets.proofs.set_finite.Goals as goal

pub returns-then-not-four_finite : goal.returns-then-not-four_finite
returns-then-not-four_finite c =
    let set = c.args.set.now in
    let a : four set 0 ≡ false = sym (rw c.from_list-m.ensures at c.four_finite.ensures) ∙ c.if-not-four_finite.true in
    rw (in_fours set c.requires, a)

pub returns-then-not-four_finite-2 : goal.returns-then-not-four_finite-2
returns-then-not-four_finite-2 c =
    let set = c.args.set.now in
    let a : four set 0 ≡ true = sym (rw c.from_list-m.ensures at c.four_finite.ensures) ∙ c.if-not-four_finite.false in
    let b : four set 4 ≡ false = sym (rw c.from_list-m.ensures at c.four_finite-2.ensures) ∙ c.if-not-four_finite-2.true in
    rw (in_fours set c.requires, a, b)

pub returns-then-not-four_finite-3 : goal.returns-then-not-four_finite-3
returns-then-not-four_finite-3 c =
    let set = c.args.set.now in
    let a : four set 0 ≡ true = sym (rw c.from_list-m.ensures at c.four_finite.ensures) ∙ c.if-not-four_finite.false in
    let b : four set 4 ≡ true = sym (rw c.from_list-m.ensures at c.four_finite-2.ensures) ∙ c.if-not-four_finite-2.false in
    let d : four set 8 ≡ false = sym (rw c.from_list-m.ensures at c.four_finite-3.ensures) ∙ c.if-not-four_finite-3.true in
    rw (in_fours set c.requires, a, b, d)

pub returns : goal.returns
returns c =
    let set = c.args.set.now in
    let a : four set 0 ≡ true = sym (rw c.from_list-m.ensures at c.four_finite.ensures) ∙ c.if-not-four_finite.false in
    let b : four set 4 ≡ true = sym (rw c.from_list-m.ensures at c.four_finite-2.ensures) ∙ c.if-not-four_finite-2.false in
    let d : four set 8 ≡ true = sym (rw c.from_list-m.ensures at c.four_finite-3.ensures) ∙ c.if-not-four_finite-3.false in
    rw (in_fours set c.requires, a, b, d) (rw c.from_list-m.ensures at c.is_finite.ensures)
