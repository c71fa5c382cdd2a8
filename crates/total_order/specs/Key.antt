-- The key of a binary64 bit pattern. Definitions only.
use Rattle.std.specs.Prelude.{cond, ℕ, ◌+◌, ◌-◌, ◌*◌, ◌/◌, ◌%◌, ◌^◌, ℤ, ltb}
use Rattle.std.specs.Int.{w64}
use Rattle.std.proofs.Common.{to_z}

-- the pattern with its low 63 bits inverted
abbrev pub invert_low : ℕ → ℕ
invert_low b = b / 2 ^ 63 * 2 ^ 63 + (2 ^ 63 - 1 - b % 2 ^ 63)

-- "a number's bits are read as a signed integer whose low 63 bits are inverted when it is negative"
unfoldable pub key_of : ℕ → ℤ
key_of b = to_z w64 (cond (ltb b (2 ^ 63)) b (invert_low b))
