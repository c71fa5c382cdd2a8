-- The roots of many numbers: what the parts of `many` return. Definitions only.
use Rattle.std.specs.Prelude.{◌≡◌, ℕ, ◌+◌, ◌*◌, ◌/◌, ◌%◌, ◌^◌, ◌<◌, ◌≤◌, cond, List, length, slice_index_or, to_bits, Float}
use Rattle.std.specs.Float.{nan, binary64}
use Rattle.std.specs.Float.Ieee.{ne}
use Rattle.square_root.specs.Computed.{square_root}
use Rattle.square_root.specs.Steps.{Root}

-- the most numbers of a call
abbrev pub MOST : ℕ
MOST = 32

-- the 53 digits of a normal value's pattern as a whole number, doubled where the exponent is odd
abbrev pub pattern_digits : ℕ → ℕ
pattern_digits b = (b % 2 ^ 52 + 2 ^ 52) * 2 ^ ((b / 2 ^ 52 + 1073) % 2)

unfoldable pub digits_of : Float → ℕ
digits_of x = cond (ne x x) 0 (pattern_digits (to_bits binary64 x))

-- of digits in their range, r is the root if there is no doubt
abbrev pub Told : ℕ → ℕ → ℕ → Type 0
Told n r doubt = 2 ^ 52 ≤ n → n < 2 ^ 54 → doubt ≡ 0 → Root (n * 2 ^ 54) r

-- the first `many` numbers of ys are the roots of those of xs, and the others those of xs
pub record RootsOf (many : ℕ) (xs ys : List Float) : Type 0 where
  pub long : length ys ≡ length xs
  pub each : (k : ℕ) → k < many → slice_index_or ys k nan ≡ square_root (slice_index_or xs k nan)
  pub rest : (k : ℕ) → many ≤ k → slice_index_or ys k nan ≡ slice_index_or xs k nan
