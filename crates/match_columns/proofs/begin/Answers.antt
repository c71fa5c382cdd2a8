-- `match_columns::begin` meets its contract: by the width. Assumes nothing.
use mathlib.Core.Path.{sym}
use native.Mathlib.Nat.{mul-le-mul_right, le_of_eq}
use native.Mathlib.Omega.{arith}
use borrow.Author.Rules.{rules}
use Rattle.match_columns.specs.Columns.{grown_none}
use Rattle.match_columns.proofs.begin.Goals as goal

pub write_first-requires : goal.write_first-requires
write_first-requires c =
    (search rules, search rules, omega arith, omega arith, omega (arith, mul-le-mul_right c.args.rows (le_of_eq (sym c.if-dof-eq7.true)), c.requires.2))

pub write_first-requires-then-dof-ge6 : goal.write_first-requires-then-dof-ge6
write_first-requires-then-dof-ge6 c =
    (search rules, search rules, omega arith, omega arith, omega (arith, mul-le-mul_right c.args.rows c.if-dof-ge6.true, c.requires.2))

pub write_first-requires-then-dof-ge3 : goal.write_first-requires-then-dof-ge3
write_first-requires-then-dof-ge3 c =
    (search rules, search rules, omega arith, omega arith, omega (arith, mul-le-mul_right c.args.rows c.if-dof-ge3.true, c.requires.2))

pub returns : goal.returns
returns c = (search rules, search rules, grown_none _ _ _ _)
