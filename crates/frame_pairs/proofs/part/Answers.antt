-- `frame_pairs::part` meets its contract: of the rows and products that the calls make, the numbers are the part. Assumes nothing.
use Prim.Native.Nat.{ℕ, ◌<◌}
use mathlib.Core.Path.{◌≡◌, refl, ◌∙◌}
use native.Mathlib.Omega.{arith}
use Rattle.lists.specs.Part.{◌!◌}
use Rattle.block_transforms.specs.Transform.{entry_from, left_product}
use Rattle.frame_segment.specs.Frame.{block_entry}
use Rattle.frame_parts.specs.Frame.{vector_entry}
use Rattle.frame_pairs.specs.Pairs.{of_six}
use Rattle.frame_pairs.proofs.Lanes.{part_all}
use Rattle.frame_pairs.proofs.Products.{six, left_is, vector_left, block_is, column_is, pulled_is, cost_is}
use Rattle.frame_pairs.proofs.part.Goals as goal

pub returns : goal.returns
returns g c =
    let a = c.args in
    let pre = c.requires in
    let cols = g.row.COLS in
    let n = a.plane.normal in
    let offset = a.plane.offset in
    let hr = c.of_frame-r.ensures in
    let pull = c.frame_pull-pull.ensures in
    let t = entry_from a.t.now a.at 6 in
    let block = block_entry a.x.now a.f n a.weight in
    let u0 = left_is 6 t cols block 0 c.column.result (column_is a.x.now n a.f hr a.weight 0 (omega arith) c.column.ensures) c.left-u0.ensures in
    let u1 = left_is 6 t cols block 1 c.column-2.result (column_is a.x.now n a.f hr a.weight 1 (omega arith) c.column-2.ensures) c.left-u1.ensures in
    let u2 = left_is 6 t cols block 2 c.column-3.result (column_is a.x.now n a.f hr a.weight 2 (omega arith) c.column-3.ensures) c.left-u2.ensures in
    let u3 = left_is 6 t cols block 3 c.column-4.result (column_is a.x.now n a.f hr a.weight 3 (omega arith) c.column-4.ensures) c.left-u3.ensures in
    let u4 = left_is 6 t cols block 4 c.column-5.result (column_is a.x.now n a.f hr a.weight 4 (omega arith) c.column-5.ensures) c.left-u4.ensures in
    let u5 = left_is 6 t cols block 5 c.column-6.result (column_is a.x.now n a.f hr a.weight 5 (omega arith) c.column-6.ensures) c.left-u5.ensures in
    let u = of_six c.left-u0.result c.left-u1.result c.left-u2.result c.left-u3.result c.left-u4.result c.left-u5.result in
    let us = six (λ q. (i : ℕ) → i < cols → u q ! i ≡ left_product 6 t block i q) u0 u1 u2 u3 u4 u5 in
    let v = vector_left 6 t cols (vector_entry a.x.now a.f n offset a.weight) c.vector-w.result (pulled_is a.x.now n a.f hr a.weight offset pull c.vector-w.ensures) c.left.ensures in
    let all = part_all cols a.k _ _ _ _ _ _ _ _ refl refl pre.2 pre.3 (omega (arith, pre.2)) c.put_columns.ensures c.put.ensures v in
    record {
      long = all.long;
      holds = record { block = λ i j li lj. all.block i j li lj ∙ block_is 6 cols t block u us i j li; vector = all.vector; cost = all.cost ∙ cost_is a.x.now n a.f offset a.weight pull };
      other = all.other;
    }
