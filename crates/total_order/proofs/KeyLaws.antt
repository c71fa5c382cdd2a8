-- Laws of the key: its value on either side of the sign bit, its range, and that it tells patterns apart. Assumes nothing.
use mathlib.Core.Path.{◌≡◌, refl, ap}
use mathlib.Core.Bool.{Bool, true, false}
use mathlib.Core.Logic.{⊎_elim}
use Prim.Native.Nat.{ℕ, ◌+◌, ◌-◌, ◌%◌, ◌^◌, ◌≤◌, ◌<◌}
use native.Mathlib.Omega.{arith}
use lib.IntN.{ℤ, pos, negsuc, pos-ne-negsuc}
use lib.Dec.{leb}
use borrow.Author.Tests.{lt-ltb, le-ltb, le-leb, lt-leb}
use mir.Syntax.{w64}
use mir.Val.{SFits}
use Rattle.total_order.specs.Key.{key_of, invert_low}
use Rattle.total_order.proofs.Parts.{side, over, under, over_pos, under_pos, over_negsuc, under_negsuc}

pub key_pos : (b : ℕ) → b < 2 ^ 63 → key_of b ≡ pos b
unfolding key_of
key_pos b h = simp (lt-ltb b (2 ^ 63) h)

pub key_neg : (b : ℕ) → 2 ^ 63 ≤ b → b < 2 ^ 64 → key_of b ≡ negsuc (b - 2 ^ 63)
unfolding key_of
key_neg b h k =
    let e : invert_low b ≡ 2 ^ 64 + 2 ^ 63 - 1 - b = omega arith in
    simp (le-ltb b (2 ^ 63) h, e, le-ltb (2 ^ 64 + 2 ^ 63 - 1 - b) (2 ^ 63) (omega arith)) (ap negsuc (omega arith))

pub key_fits : (b : ℕ) → b < 2 ^ 64 → SFits w64 (key_of b)
key_fits b k = ⊎_elim
    (λ (h : b < 2 ^ 63). rw (key_pos b h) (record { sfits = h }))
    (λ (h : 2 ^ 63 ≤ b). rw (key_neg b h k) (record { sfits = omega arith }))
    (side b (2 ^ 63))

-- ---- the parts of a key

pub key_parts_pos : (b : ℕ) → b < 2 ^ 63 → (over (key_of b) ≡ b) × (under (key_of b) ≡ 0)
key_parts_pos b h = rw (key_pos b h) (over_pos b, under_pos b)

pub key_parts_neg : (b : ℕ) → 2 ^ 63 ≤ b → b < 2 ^ 64 → (over (key_of b) ≡ 0) × (under (key_of b) + 2 ^ 63 ≡ b + 1)
key_parts_neg b h k = rw (key_neg b h k, over_negsuc, under_negsuc) (refl, omega arith)

-- ---- the key by sign and size

-- the pattern without its sign bit
abbrev pub size : ℕ → ℕ
size b = b % 2 ^ 63

abbrev pub sign : ℕ → Bool
sign b = leb (2 ^ 63) b

-- the number of a sign and a size
abbrev pub signed : Bool → ℕ → ℤ
signed false m = pos m
signed true m = negsuc m

-- a pattern's place in the order: its size, counted down where its sign is set
abbrev pub rank : ℕ → ℤ
rank b = signed (sign b) (size b)

pub key_is : (b : ℕ) → b < 2 ^ 64 → key_of b ≡ rank b
key_is b h = ⊎_elim
    (λ (l : b < 2 ^ 63). let e : size b ≡ b = omega arith in rw (key_pos b l, lt-leb (2 ^ 63) b l, e))
    (λ (l : 2 ^ 63 ≤ b). let e : b - 2 ^ 63 ≡ size b = omega arith in rw (key_neg b l h, le-leb (2 ^ 63) b l, e))
    (side b (2 ^ 63))

-- two patterns with one key are one pattern
pub key_apart : (a b : ℕ) → a < 2 ^ 64 → b < 2 ^ 64 → key_of a ≡ key_of b → a ≡ b
key_apart a b h k e = ⊎_elim
    (λ (l : a < 2 ^ 63). ⊎_elim
    (λ (m : b < 2 ^ 63). cc (key_pos a l, key_pos b m))
    (λ (m : 2 ^ 63 ≤ b). absurd (pos-ne-negsuc a (b - 2 ^ 63) (cc (key_pos a l, key_neg b m k))))
    (side b (2 ^ 63)))
    (λ (l : 2 ^ 63 ≤ a). ⊎_elim
    (λ (m : b < 2 ^ 63). absurd (pos-ne-negsuc b (a - 2 ^ 63) (cc (key_neg a l h, key_pos b m))))
    (λ (m : 2 ^ 63 ≤ b). let q : a - 2 ^ 63 ≡ b - 2 ^ 63 = cc (key_neg a l h, key_neg b m k) in omega arith)
    (side b (2 ^ 63)))
    (side a (2 ^ 63))
