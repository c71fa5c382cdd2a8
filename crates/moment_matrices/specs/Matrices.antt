-- What moments are made of, entry by entry. Definitions only.
use Rattle.std.specs.Prelude.{List, Float}
use Rattle.std.specs.Float.{binary64}
use Rattle.std.specs.Float.Ieee.{of_bits, div, sub}
use Rattle.sums.specs.Sum.{◌⊕◌, ◌⊗◌, sum_to, tab, grid, at}
use Rattle.lists.specs.Part.{◌!◌}

-- 0.5, by its bits
abbrev pub half : Float
half = of_bits binary64 0x3fe0_0000_0000_0000

-- outer(r,c) / count - mean_r·mean_c
abbrev pub spread_of : List Float → List Float → Float → List Float
spread_of o u n = grid 3 3 (λ r c. sub binary64 (div binary64 (at 3 o r c) n) (u ! r ⊗ u ! c))

-- (s(r,c) + s(c,r))·0.5
abbrev pub symmetric_of : List Float → List Float
symmetric_of s = grid 3 3 (λ r c. (at 3 s r c ⊕ at 3 s c r) ⊗ half)

unfoldable pub scatter_of : List Float → List Float → Float → List Float
scatter_of o u n = symmetric_of (spread_of o u n)

-- A·s: its row r is Σ_c A(r,c)·s_c
abbrev pub turned : List Float → List Float → List Float
turned a s = tab 3 (λ r. sum_to 3 (λ c. at 3 a r c ⊗ s ! c))

-- ((X(r,c) + t_r·b_c) + b_r·t_c) + (b_r·b_c)·n, where X = A·outer·Aᵀ from the left
unfoldable pub moved_outer : List Float → List Float → List Float → List Float → Float → List Float
moved_outer o a t b n =
    grid 3 3 (λ r c. sum_to 3 (λ k. sum_to 3 (λ l. at 3 a r l ⊗ at 3 o l k) ⊗ at 3 a c k) ⊕ t ! r ⊗ b ! c ⊕ b ! r ⊗ t ! c ⊕ b ! r ⊗ b ! c ⊗ n)
