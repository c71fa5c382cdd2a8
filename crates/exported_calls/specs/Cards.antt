-- What a function leaves that writes a list to a card and reads it again, or the other way round. Definitions only.
use Rattle.std.specs.Prelude.{ℕ, ◌≡◌, List, length}
use Rattle.cards.specs.Calls.{Records}

-- from n records over a second slice into a third, both as long and whatever they held: both calls are taken, and the same bits come back
abbrev pub Back : List ℕ → List ℕ → List ℕ → ℕ → ℕ → List ℕ → Type 0
Back l middle last r s last' = (n : ℕ) → Records n l → length middle ≡ length l → length last ≡ length l → (r ≡ 0) × (s ≡ 0) × (last' ≡ l)
