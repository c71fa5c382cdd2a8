-- What a function that makes both builds on the same inputs leaves. Definitions only.
use Rattle.std.specs.Prelude.{ℕ, ◌≡◌}
use Rattle.plane_moments.specs.Build.{Outputs}

-- if the outputs of both held the same, and the strict answer is not 13, both answers are the same, and the outputs hold the same afterwards
abbrev pub Agree : Outputs → Outputs → ℕ → ℕ → Outputs → Outputs → Type 0
Agree plain strict q r plain' strict' = strict ≡ plain → (r ≡ 13 → ⊥) → (r ≡ q) × (strict' ≡ plain')
