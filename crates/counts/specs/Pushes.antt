-- Pushes in a row. Definitions only.
use Rattle.std.specs.Prelude.{ℕ, zero, suc, Bool, false, ◌||◌, pos, Float}
use Rattle.std.specs.Float.{binary64}
use Rattle.std.specs.Float.Ieee.{add}
use Rattle.counts.specs.Whole.{float_of}
use Rattle.counts.specs.Saturation.{push_saturates}

-- one of k pushes into a set of the count x is refused; each adds 1, rounded
unfoldable pub some_push_saturates : ℕ → Float → Bool
some_push_saturates zero x = false
some_push_saturates (suc k) x = push_saturates x || some_push_saturates k (add binary64 x (float_of (pos 1)))
