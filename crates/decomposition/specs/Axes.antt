-- A decomposition by its bit patterns: eigenvalue k at k, component r of vector k at 3 + 3k + r. Definitions only.
use Rattle.std.specs.Prelude.{ℕ, ◌+◌, ◌*◌, List, get_or, Float}
use Rattle.std.specs.Float.{binary64}
use Rattle.std.specs.Float.Ieee.{of_bits}
use Rattle.sums.specs.Sum.{tab, off}
use Rattle.total_order.specs.declared.Order.{Order}
use Rattle.total_order.specs.Three.{order_of}
use Rattle.decomposition.specs.declared.Axes.{Axes}

-- how many patterns a decomposition is
abbrev pub DECOMPOSITION : ℕ
DECOMPOSITION = 12

-- the number at a place
abbrev pub number_at : List ℕ → ℕ → Float
number_at d k = of_bits binary64 (get_or d k 0)

abbrev pub vector_of : List ℕ → ℕ → List Float
vector_of d k = tab 3 (λ r. number_at d (off (k * 3 + 3) r))

-- the places of the eigenvalues as they rise in the total order, equal ones by their index
abbrev pub places_of : List ℕ → Order
places_of d = order_of (get_or d 0 0) (get_or d 1 0) (get_or d 2 0)

-- the eigenvalues in rising order, and the vector of the first
unfoldable pub rising_of : List ℕ → Axes
rising_of d =
    let o = places_of d in
    record {
      first = number_at d o.first;
      second = number_at d o.second;
      third = number_at d o.third;
      normal = vector_of d o.first;
    }
