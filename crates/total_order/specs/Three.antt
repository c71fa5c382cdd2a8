-- The order of three bit patterns: which place comes first, second and third, by totalOrder, equal patterns in the order of their places. Definitions only.
use Rattle.std.specs.Prelude.{◌≡◌, Bool, true, not, ◌&&◌, ◌||◌, cond, ℕ, zero, suc, ◌<◌, ltb}
use Rattle.std.specs.Float.Ieee.{of_bits, nan_bits, lt}
use Rattle.total_order.specs.declared.Order.{Order}
use Rattle.total_order.specs.TotalOrder.{total_order}

-- the pattern at a place of three
abbrev pub pattern_at : ℕ → ℕ → ℕ → ℕ → ℕ
pattern_at a b c zero = a
pattern_at a b c (suc zero) = b
pattern_at a b c (suc (suc i)) = c

-- place i comes before place j: j's pattern is not at most i's in the total order; or i's is at most j's, and i is the lesser place
unfoldable pub before : (ℕ → ℕ) → ℕ → ℕ → Bool
before p i j = not (total_order (p j) (p i)) || (total_order (p i) (p j) && ltb i j)

-- the one of two places that comes before the other, and that other
abbrev pub least : (ℕ → ℕ) → ℕ → ℕ → ℕ
least p i j = cond (before p i j) i j

abbrev pub greatest : (ℕ → ℕ) → ℕ → ℕ → ℕ
greatest p i j = cond (before p i j) j i

-- the other two of the places 0, 1 and 2
abbrev pub one_other : ℕ → ℕ
one_other zero = 1
one_other (suc i) = 0

abbrev pub next_other : ℕ → ℕ
next_other zero = 2
next_other (suc zero) = 2
next_other (suc (suc i)) = 1

-- first the least of the three places, second the least of the other two, third the last of them
abbrev pub order_by : (ℕ → ℕ) → Order
order_by p =
    let i = least p (least p 0 1) 2 in
    record { first = i; second = least p (one_other i) (next_other i); third = greatest p (one_other i) (next_other i) }

-- of three patterns; with the definitions that are opened here the order of given patterns computes
unfoldable pub order_of : ℕ → ℕ → ℕ → Order
unfolding total_order nan_bits of_bits lt
order_of a b c = order_by (pattern_at a b c)

-- What a caller may rely on: the three places are 0, 1 and 2, each once, and they rise by totalOrder of their patterns, then by place.
pub record Rises (p : ℕ → ℕ) (o : Order) : Type 0 where
  pub first_below : o.first < 3
  pub second_below : o.second < 3
  pub third_below : o.third < 3
  pub first-second : before p o.first o.second ≡ true
  pub second-third : before p o.second o.third ≡ true
  pub first-third : before p o.first o.third ≡ true
  pub apart : (o.first ≡ o.second → ⊥) × (o.second ≡ o.third → ⊥) × (o.first ≡ o.third → ⊥)
