-- `products::product` meets its contract: after c turns the first c columns are the product's. Assumes nothing.
use Prim.Native.Nat.{ℕ, ◌<◌, ◌*◌}
use mathlib.Core.Path.{◌≡◌, ◌∙◌}
use lib.ListN.{get_or}
use lib.Ieee.{nan}
use Rattle.sums.specs.Fill.{padded-first, written_same, columns_more, columns_all}
use Rattle.products.specs.Entry.{column_entry, entry_at}
use Rattle.products.proofs.product.Goals as goal

pub loop-c-preserved : goal.loop-c-preserved
unfolding entry_at
loop-c-preserved c =
    let a = c.args in
    let l = c.loop-c in
    let f = entry_at a.rows a.inner a.a.now a.b.now in
    let one = c.column-one in
    let same : (k : ℕ) → k < a.rows → get_or one.result k nan ≡ f k l.c = λ k h. rw one.ensures (padded-first 9 a.rows _ k h) in
    let out = c.write.ensures ∙ written_same l.out (l.c * a.rows) a.rows _ (λ r. f r l.c) same in
    columns_more a.rows a.cols f a.out.now l.out _ l.c c.requires.3 c.loop-c-test.true l.invariant out

pub returns : goal.returns
unfolding entry_at column_entry
returns c =
    columns_all c.args.rows c.args.cols _ c.args.out.now _ _ c.requires.3 c.loop-c-test.false c.loop-c.invariant
