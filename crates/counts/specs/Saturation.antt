-- Counts that are saturated: from 2^53 = 9,007,199,254,740,992 on, a whole number of binary64 with 1 added and rounded is not one more. Definitions only.
-- A float is a NaN, an infinity with its sign, or ±m·2^e. The last is compared as the fraction ±(m · up e) / down e of whole numbers, so that nothing here rounds.
use Rattle.std.specs.Prelude.{ℕ, ◌*◌, ◌^◌, Bool, false, not, ◌&&◌, ℤ, pos, negsuc, ◌+ℤ◌, ltb, leb, Float}
use Rattle.std.specs.Float.{nan, inf, fin}
use Rattle.std.specs.Float.Ieee.{up, down}
use Rattle.counts.specs.Whole.{signed}

-- the largest count
abbrev pub MOST : ℕ
MOST = 2 ^ 53

-- a whole number is l or above; it is above l
abbrev pub at_least : ℕ → ℤ → Bool
at_least l (pos n) = leb l n
at_least l (negsuc n) = false

abbrev pub above : ℕ → ℤ → Bool
above l (pos n) = ltb l n
above l (negsuc n) = false

-- Push: the count is at or above 2^53. +infinity is, -infinity is not, and a NaN is not.
unfoldable pub push_saturates : Float → Bool
push_saturates nan = false
push_saturates (inf s) = not s
push_saturates (fin s m e) = at_least (MOST * down e) (signed s (m * up e))

-- Merge: the exact sum of the two counts is above 2^53, both over one denominator. An infinity is above or below every number by its sign; two opposite
-- infinities are not above, and nothing with a NaN is.
unfoldable pub merge_saturates : Float → Float → Bool
merge_saturates nan y = false
merge_saturates (inf s) nan = false
merge_saturates (inf s) (inf t) = not s && not t
merge_saturates (inf s) (fin t n d) = not s
merge_saturates (fin s m e) nan = false
merge_saturates (fin s m e) (inf t) = not t
merge_saturates (fin s m e) (fin t n d) =
    above (MOST * (down e * down d)) (signed s (m * up e * down d) +ℤ signed t (n * up d * down e))
