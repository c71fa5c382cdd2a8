-- What callers may cite of `square_root`: it is IEEE 754's, it is fixed by that, and no tie can occur. Assumes nothing.
use Rattle.std.proofs.Common.{◌≡◌, T}
use lib.Ieee.{Float, Format, binary64, fits}
use lib.Ieee.Scale.{finite}
use lib.Ieee.Positive.{positive}
use Rattle.square_root.specs.SquareRoot.{IsSquareRoot, Tie}
use Rattle.square_root.specs.Computed.{square_root}
use Rattle.square_root.proofs.Computed.{sqrt_of_is, unique, untied}

-- the root of every value of the format is IEEE 754's
pub square_root_is : (x : Float) → T (fits binary64 x) → IsSquareRoot binary64 x (square_root x)
unfolding square_root
square_root_is x h = sqrt_of_is binary64 x h

-- and IEEE 754's root is this one
pub square_root_only : (x r : Float) → T (fits binary64 x) → IsSquareRoot binary64 x r → r ≡ square_root x
square_root_only x r h p = unique binary64 x r (square_root x) p (square_root_is x h)

-- IEEE 754's definition fixes its result, in every format
pub root_unique : (f : Format) (x r s : Float) → IsSquareRoot f x r → IsSquareRoot f x s → r ≡ s
root_unique = unique

-- Of an x of the format that is finite and above zero, no other finite value of the format is as near to √x as its root, so the rule for ties has nothing to decide.
-- (Of an x with more digits than the format's there may be two; `root_unique` holds there by that rule.)
pub no_tie : (f : Format) (x r y : Float) → T (fits f x) → T (positive x) → IsSquareRoot f x r → T (fits f y) → T (finite y) → (y ≡ r → ⊥) → Tie x r y → ⊥
no_tie = untied
