-- `match_columns::write_next` meets its contract. Assumes nothing.
use Prim.Native.Nat.{◌+◌, ◌≤◌}
use native.Mathlib.Nat.{mul-le-mul_right}
use native.Mathlib.Omega.{arith}
use borrow.Author.Rules.{rules}
use Rattle.match_columns.proofs.write_next.Goals as goal

pub write_columns-requires : goal.write_columns-requires
write_columns-requires c =
    let a = c.args in
    let h : a.c + 3 ≤ a.dof = c.if-c-dof.true in
    (search rules, omega arith, omega (arith, mul-le-mul_right a.rows h, c.requires.3))

pub write_columns-requires-2 : goal.write_columns-requires-2
write_columns-requires-2 c =
    let a = c.args in
    let h : a.c + 1 ≤ a.dof = omega arith in
    (search rules, omega arith, omega (arith, mul-le-mul_right a.rows h, c.requires.3))
