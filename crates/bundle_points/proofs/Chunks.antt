-- A list's points as arrays of three numbers. Assumes nothing.
use Prim.Native.Nat.{ℕ, zero, suc, ◌+◌, ◌*◌, ◌<◌}
use mathlib.Core.Path.{◌≡◌, sym, ap, ◌∙◌}
use mathlib.Core.List.{List, []}
use native.Mathlib.Nat.{not-suc-le-zero, zero-add}
use native.Mathlib.Omega.{arith}
use lib.ListN.{get_or, drop}
use lib.Seq.{get_or-take, get_or-drop}
use lib.Ieee.{Float, nan}
use Rattle.std.specs.Simd.{first_chunks}
use Rattle.sums.specs.Laws.{off-add}
use Rattle.bundle_points.specs.Points.{point_count, coordinate}

-- number r of array k
pub chunk_at : (m : ℕ) (l : List Float) (k r : ℕ) → k < m → r < 3 → get_or (get_or (first_chunks 3 m l) k []) r nan ≡ get_or l (k * 3 + r) nan
chunk_at zero l k r h j = absurd (not-suc-le-zero h)
chunk_at (suc m) l zero r h j = get_or-take 3 l r nan j ∙ ap (λ n. get_or l n nan) (sym (zero-add r))
chunk_at (suc m) l (suc k) r h j =
    let i : 3 + (k * 3 + r) ≡ suc k * 3 + r = omega arith in
    chunk_at m (drop 3 l) k r (omega arith) j ∙ get_or-drop 3 l (k * 3 + r) nan ∙ ap (λ n. get_or l n nan) i

-- coordinate r of point k
pub point_at : (l : List Float) (points : List (List Float)) → points ≡ first_chunks 3 (point_count l) l → (k r : ℕ) → k < point_count l → r < 3 → get_or (get_or points k []) r nan ≡ coordinate l r k
unfolding coordinate
point_at l points e k r h j = rw (e, off-add (k * 3) r) (chunk_at (point_count l) l k r h j)
