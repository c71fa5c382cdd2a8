-- IEEE 754-2019's totalOrder (§5.10) on binary64 bit patterns, by the numbers' values and the NaNs' fields. Definitions only.
-- The letters are the standard's clauses. Its clause c.3, two encodings of one number, has nothing to decide: a binary format has one encoding of each.
use Rattle.std.specs.Prelude.{Bool, true, false, not, ◌&&◌, ◌||◌, cond, ℕ, ◌%◌, ◌^◌, leb}
use Rattle.std.specs.Float.{binary64}
use Rattle.std.specs.Float.Ieee.{of_bits, nan_bits, lt}

-- the sign bit; of a NaN, whether it is quiet, and its payload
abbrev pub sign_bit : ℕ → Bool
sign_bit b = leb (2 ^ 63) b

abbrev pub quiet : ℕ → Bool
quiet b = leb (2 ^ 51) (b % 2 ^ 52)

abbrev pub payload : ℕ → ℕ
payload b = b % 2 ^ 51

-- d.3.ii and d.3.iii for positive NaNs: a signaling one orders below a quiet one, then the lesser payload below the greater
abbrev pub nan_below : ℕ → ℕ → Bool
nan_below a b = cond (quiet a) (quiet b && leb (payload a) (payload b)) (quiet b || leb (payload a) (payload b))

-- d.3 for two NaNs: the negative sign orders below the positive one, and between two negative NaNs the order is reversed
abbrev pub nan_order : ℕ → ℕ → Bool
nan_order a b = cond (sign_bit a) (not (sign_bit b) || nan_below b a) (not (sign_bit b) && nan_below a b)

-- a, b, c for two numbers: by their values, and of two zeros -0 orders below +0
abbrev pub number_order : ℕ → ℕ → Bool
number_order a b =
    cond (lt (of_bits binary64 a) (of_bits binary64 b)) true
    (cond (lt (of_bits binary64 b) (of_bits binary64 a)) false
    (sign_bit a || not (sign_bit b)))

-- totalOrder: d.1 a negative NaN orders below every number, d.2 a positive one above
unfoldable pub total_order : ℕ → ℕ → Bool
total_order a b =
    cond (nan_bits binary64 a)
    (cond (nan_bits binary64 b) (nan_order a b) (sign_bit a))
    (cond (nan_bits binary64 b) (not (sign_bit b)) (number_order a b))
