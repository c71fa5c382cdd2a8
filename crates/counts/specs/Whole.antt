-- Whole numbers and the binary64 numbers that they are. Definitions only.
use Rattle.std.specs.Prelude.{ℕ, suc, ◌^◌, ◌≤◌, ◌≡◌, Bool, true, false, ℤ, pos, negsuc, neg_ℤ, Float}
use Rattle.std.specs.Float.{binary64}
use Rattle.std.specs.Float.Ieee.{of_int}
use Rattle.std.specs.Float.Ieee.Exact.{HasValue}

-- ±n, negative where the sign s is set
abbrev pub signed : Bool → ℕ → ℤ
signed false n = pos n
signed true n = neg_ℤ (pos n)

-- the float of a whole number, as code converts it: rounded once, and +0 for 0
abbrev pub float_of : ℤ → Float
float_of z = of_int binary64 z

-- x is finite and exactly the whole number z; both zeros are 0
abbrev pub Whole : Float → ℤ → Type 0
Whole x z = (s : Bool) × (n : ℕ) × HasValue x s n 1 × (signed s n ≡ z)

-- z is not below -2^53
abbrev pub NotBelow : ℤ → Type 0
NotBelow (pos n) = Unit {0}
NotBelow (negsuc n) = suc n ≤ 2 ^ 53
