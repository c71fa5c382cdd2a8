-- `transform_maps::bad_slices` meets its contract: the tests in their order. Assumes nothing.
use borrow.Author.Tests.{lt-ltb, le-ltb, eq-eqb, ne_eqb}
use Rattle.transform_maps.specs.Multiply.{bad_slices}
use Rattle.transform_maps.proofs.bad_slices.Goals as goal

pub returns-then-words-gt-MOST_WORDS : goal.returns-then-words-gt-MOST_WORDS
unfolding bad_slices
returns-then-words-gt-MOST_WORDS c = rw (lt-ltb _ _ c.if-words-gt-MOST_WORDS.true)

pub returns-then-bad_beside : goal.returns-then-bad_beside
unfolding bad_slices
returns-then-bad_beside c =
    rw (le-ltb _ _ c.if-words-gt-MOST_WORDS.false, ← c.bad_beside.ensures, c.if-bad_beside.true)

pub returns-then-shape-ne2 : goal.returns-then-shape-ne2
unfolding bad_slices
returns-then-shape-ne2 c =
    rw (le-ltb _ _ c.if-words-gt-MOST_WORDS.false, ← c.bad_beside.ensures, c.if-bad_beside.false, ne_eqb _ _ c.if-shape-ne2.true)

pub returns-then-further-ne-TRANSFORM : goal.returns-then-further-ne-TRANSFORM
unfolding bad_slices
returns-then-further-ne-TRANSFORM c =
    rw (le-ltb _ _ c.if-words-gt-MOST_WORDS.false, ← c.bad_beside.ensures, c.if-bad_beside.false, eq-eqb _ _ c.if-shape-ne2.false, ne_eqb _ _ c.if-further-ne-TRANSFORM.true)

pub returns-then-to-words : goal.returns-then-to-words
unfolding bad_slices
returns-then-to-words c =
    rw (le-ltb _ _ c.if-words-gt-MOST_WORDS.false, ← c.bad_beside.ensures, c.if-bad_beside.false, eq-eqb _ _ c.if-shape-ne2.false, eq-eqb _ _ c.if-further-ne-TRANSFORM.false, ne_eqb _ _ c.if-to-words.true)

pub returns-then-out-words : goal.returns-then-out-words
unfolding bad_slices
returns-then-out-words c =
    rw (le-ltb _ _ c.if-words-gt-MOST_WORDS.false, ← c.bad_beside.ensures, c.if-bad_beside.false, eq-eqb _ _ c.if-shape-ne2.false, eq-eqb _ _ c.if-further-ne-TRANSFORM.false, eq-eqb _ _ c.if-to-words.false, ne_eqb _ _ c.if-out-words.true)

pub returns : goal.returns
unfolding bad_slices
returns c =
    rw (le-ltb _ _ c.if-words-gt-MOST_WORDS.false, ← c.bad_beside.ensures, c.if-bad_beside.false, eq-eqb _ _ c.if-shape-ne2.false, eq-eqb _ _ c.if-further-ne-TRANSFORM.false, eq-eqb _ _ c.if-to-words.false, eq-eqb _ _ c.if-out-words.false)
