-- `total_order::key` meets its contract: the integers that the code computes have the key's parts. Assumes nothing.
use native.Mathlib.Omega.{arith}
use Rattle.total_order.proofs.Parts.{same, parts, fits_parts, read_back}
use Rattle.total_order.proofs.KeyLaws.{key_parts_pos, key_parts_neg}
use Rattle.total_order.proofs.key.Goals as goal

pub overflow_sub-result : goal.overflow_sub-result
overflow_sub-result c = fits_parts (simp parts (omega arith)) (simp parts (omega arith))

pub returns-then-bits-lt9223372036854775808 : goal.returns-then-bits-lt9223372036854775808
returns-then-bits-lt9223372036854775808 c = same (simp parts (omega (arith, key_parts_pos c.args.bits c.if-bits-lt9223372036854775808.true)))

pub returns-else-bits-lt9223372036854775808 : goal.returns-else-bits-lt9223372036854775808
returns-else-bits-lt9223372036854775808 c =
    let b = c.args.bits in
    read_back (overflow_sub-result c) (same (simp parts (omega (arith, key_parts_neg b c.if-bits-lt9223372036854775808.false (omega arith)))))
