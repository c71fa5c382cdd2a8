-- A list taken in batches of at most `most`: the one that starts at number `from` has min (count - from) most of its `count` things. Assumes nothing.
use Rattle.std.specs.Prelude.{◌≡◌, ℕ, ◌+◌, ◌-◌, ◌≤◌, ◌<◌, min}
use Rattle.std.proofs.Math.Nat.{min-le_left, min-le_right, le-min}
use Rattle.std.proofs.Common.{arith}

-- a batch is within its bounds, and never empty before the end
pub batch_fits : {count from most size : ℕ} → size ≡ min (count - from) most → from < count → 0 < most → (0 < size) × (size ≤ most) × (from + size ≤ count)
batch_fits {count} {from} {most} e h p =
    let m : min (count - from) most ≤ count - from = min-le_left (count - from) most in
    rw e (le-min (omega arith) p, min-le_right (count - from) most, omega arith)
