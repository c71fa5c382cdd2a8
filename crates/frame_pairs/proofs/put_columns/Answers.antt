-- `frame_pairs::put_columns` meets its contract: after each product one column more is there, three of them or five. Assumes nothing.
use Prim.Native.Nat.{◌+◌, ◌*◌}
use mathlib.Core.Path.{refl, sym}
use native.Mathlib.Nat.{add-zero}
use native.Mathlib.Omega.{arith}
use Rattle.sums.specs.Sum.{◌⊗◌, sum_to}
use Rattle.lists.specs.Part.{◌!◌}
use Rattle.block_transforms.specs.Transform.{entry_from}
use Rattle.frame_pairs.specs.Pairs.{of_six, Columns}
use Rattle.frame_pairs.proofs.Lanes.{five_else, columns-none, columns_more, columns-all}
use Rattle.frame_pairs.proofs.Products.{right_is}
use Rattle.frame_pairs.proofs.put_columns.Goals as goal
use Rattle.frame_pairs.proofs.put_columns.Goals.{After-put-3}

-- the first three columns
three : (g : _) (c : After-put-3 g) → let a = c.args in
    Columns g.row.COLS a.k (λ i j. sum_to 6 (λ q. (of_six a.u.0 a.u.1 a.u.2 a.u.3 a.u.4 a.u.5 q ! i) ⊗ entry_from a.t.now a.at 6 q j)) a.cells.now 3 c.put-3.new.cells
three g c =
    let a = c.args in
    let u = of_six a.u.0 a.u.1 a.u.2 a.u.3 a.u.4 a.u.5 in
    let cols = g.row.COLS in
    let first = columns_more cols a.k _ _ 0 0 _ (omega arith) c.put.ensures (right_is 6 a.t.now a.at cols 0 a.at u (sym (add-zero a.at)) c.right.ensures) (columns-none cols _ _ _) in
    let second = columns_more cols a.k _ _ 1 cols _ (omega arith) c.put-2.ensures (right_is 6 a.t.now a.at cols 1 (a.at + 6) u refl c.right-2.ensures) first in
    columns_more cols a.k _ _ 2 (2 * cols) _ (omega arith) c.put-3.ensures (right_is 6 a.t.now a.at cols 2 (a.at + 12) u refl c.right-3.ensures) second

pub returns-then-this-eq3 : goal.returns-then-this-eq3
returns-then-this-eq3 g c = columns-all g.row.COLS _ _ _ (sym c.if-this-eq3.true) (three g (goal.at.returns-then-this-eq3 g c).After-put-3)

pub returns : goal.returns
returns g c =
    let a = c.args in
    let u = of_six a.u.0 a.u.1 a.u.2 a.u.3 a.u.4 a.u.5 in
    let cols = g.row.COLS in
    let fourth = columns_more cols a.k _ _ 3 (3 * cols) _ (omega arith) c.put-4.ensures (right_is 6 a.t.now a.at cols 3 (a.at + 18) u refl c.right-4.ensures) (three g (goal.at.returns g c).After-put-3) in
    let fifth = columns_more cols a.k _ _ 4 (4 * cols) _ (omega arith) c.put-5.ensures (right_is 6 a.t.now a.at cols 4 (a.at + 24) u refl c.right-5.ensures) fourth in
    columns-all cols _ _ _ (sym (five_else cols c.requires.0 c.if-this-eq3.false)) fifth
