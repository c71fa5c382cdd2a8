-- A root worked out among others. Definitions only.
use Rattle.std.specs.Prelude.{ℕ, cond, ltb, Float}
use Rattle.square_root.specs.Computed.{square_root}
use Rattle.square_root.specs.Many.{MOST}

-- the root of x at a place that is one of the first `many`, of at most as many as a call takes
unfoldable pub root_among : Float → ℕ → ℕ → Float
root_among x place many = cond (ltb MOST many) x (cond (ltb place many) (square_root x) x)
