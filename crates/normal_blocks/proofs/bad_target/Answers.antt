-- `normal_blocks::bad_target` meets its contract. Assumes nothing.
use Prim.Native.Nat.{◌*◌, ◌≤◌}
use native.Mathlib.Omega.{arith}
use native.Mathlib.Nat.{mul-le-mul}
use borrow.Author.Tests.{lt-ltb, le-ltb}
use Rattle.normal_blocks.specs.Calls.{bad_target}
use Rattle.normal_blocks.proofs.bad_target.Goals as goal

pub returns-then-words-gt-MOST_WORDS : goal.returns-then-words-gt-MOST_WORDS
unfolding bad_target
returns-then-words-gt-MOST_WORDS c = rw (lt-ltb _ _ c.if-words-gt-MOST_WORDS.true)

pub returns-then-n-gt-MOST_ROWS : goal.returns-then-n-gt-MOST_ROWS
unfolding bad_target
returns-then-n-gt-MOST_ROWS c = rw (le-ltb _ _ c.if-words-gt-MOST_WORDS.false, lt-ltb _ _ c.if-n-gt-MOST_ROWS.true)

-- the order is at most 1,024 by now, so its square is a length
pub overflow_mul-result : goal.overflow_mul-result
overflow_mul-result c =
    let n = c.args.n in
    let small : n * n ≤ 1024 * 1024 = mul-le-mul c.if-n-gt-MOST_ROWS.false c.if-n-gt-MOST_ROWS.false in
    omega arith

pub returns : goal.returns
unfolding bad_target
returns c = rw (le-ltb _ _ c.if-words-gt-MOST_WORDS.false, le-ltb _ _ c.if-n-gt-MOST_ROWS.false)
