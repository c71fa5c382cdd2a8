-- `normal_blocks::remap` meets its contract: the tests in order, then every word. Assumes nothing.
use mathlib.Core.Path.{◌≡◌, sym, ◌∙◌}
use mathlib.Core.Bool.{true, false}
use borrow.Author.Tests.{lt-ltb, le-ltb, eq-eqb, ne_eqb}
use Rattle.refusals.specs.Refusal.{refused, accepted}
use Rattle.normal_blocks.specs.Map.{bad_words}
use Rattle.normal_blocks.specs.Calls.{remap_refusal}
use Rattle.normal_blocks.proofs.remap.Goals as goal

pub returns-then-map-gt-MOST_WORDS : goal.returns-then-map-gt-MOST_WORDS
unfolding remap_refusal
returns-then-map-gt-MOST_WORDS c = refused (rw (lt-ltb _ _ c.if-map-gt-MOST_WORDS.true))

pub returns-then-list-gt-MOST_WORDS : goal.returns-then-list-gt-MOST_WORDS
unfolding remap_refusal
returns-then-list-gt-MOST_WORDS c = refused (rw (le-ltb _ _ c.if-map-gt-MOST_WORDS.false, lt-ltb _ _ c.if-list-gt-MOST_WORDS.true))

pub returns-then-out-list : goal.returns-then-out-list
unfolding remap_refusal
returns-then-out-list c = refused (rw (le-ltb _ _ c.if-map-gt-MOST_WORDS.false, le-ltb _ _ c.if-list-gt-MOST_WORDS.false, ne_eqb _ _ c.if-out-list.true))

pub returns-then-bad_words : goal.returns-then-bad_words
unfolding remap_refusal
returns-then-bad_words c =
    refused (rw (le-ltb _ _ c.if-map-gt-MOST_WORDS.false, le-ltb _ _ c.if-list-gt-MOST_WORDS.false, eq-eqb _ _ c.if-out-list.false, ← c.bad_words.ensures, c.if-bad_words.true))

pub returns-then-bad_words-2 : goal.returns-then-bad_words-2
unfolding remap_refusal
returns-then-bad_words-2 c =
    let bad : bad_words c.args.list.now ≡ true = sym c.bad_words-2.ensures ∙ c.if-bad_words-2.true in
    refused
    (rw (le-ltb _ _ c.if-map-gt-MOST_WORDS.false, le-ltb _ _ c.if-list-gt-MOST_WORDS.false, eq-eqb _ _ c.if-out-list.false, ← c.bad_words.ensures, c.if-bad_words.false, bad))

pub returns : goal.returns
unfolding remap_refusal
returns c =
    let good : bad_words c.args.list.now ≡ false = sym c.bad_words-2.ensures ∙ c.if-bad_words-2.false in
    accepted
    (rw (le-ltb _ _ c.if-map-gt-MOST_WORDS.false, le-ltb _ _ c.if-list-gt-MOST_WORDS.false, eq-eqb _ _ c.if-out-list.false, ← c.bad_words.ensures, c.if-bad_words.false, good))
    c.write_remapped.ensures
