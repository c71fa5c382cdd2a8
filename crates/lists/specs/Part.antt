-- Numbers of a list by their places. Definitions only.
use Rattle.std.specs.Prelude.{ℕ, List, get_or, Float}
use Rattle.std.specs.Float.{nan}
use Rattle.sums.specs.Sum.{tab, off}

infixl 60 ◌!◌
-- number k of a list
abbrev pub ◌!◌ : List Float → ℕ → Float
l ! k = get_or l k nan

-- n numbers of a list, from a place on
abbrev pub part : ℕ → List Float → ℕ → List Float
part n l at = tab n (λ k. l ! off at k)
