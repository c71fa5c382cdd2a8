-- How the probes hand out what C has no word for. Definitions only.
use Rattle.std.specs.Prelude.{ℕ, ◌+◌, ◌*◌}
use Rattle.total_order.specs.declared.Order.{Order}

-- the three places of an order as decimal digits: 12 for 0, 1, 2
unfoldable pub digits_of : Order → ℕ
digits_of o = o.first * 100 + o.second * 10 + o.third
