-- `square_root::sqrt_bits` meets its contract: `Normal.antt`. Assumes nothing.
use Rattle.std.proofs.Common.{◌≡◌, ℕ, ◌-◌, ◌/◌, ◌^◌, ◌<◌, ◌≤◌, subst, arith}
use lib.Bits.{mask_lt}
use lib.Count.{count_leading_zeros}
use Rattle.square_root.specs.Steps.{RootBits}
use Rattle.square_root.proofs.Normal.{normal_range, normal_units, zeros_range, shift_le, up_range, subnormal_units}
use Rattle.square_root.proofs.sqrt_bits.Goals as goal
use Rattle.square_root.proofs.sqrt_bits.Goals.{Start}

below : (b : ℕ) → b / 2 ^ 52 ≡ 0 → b < 2 ^ 52
below b h = omega arith

above : (b : ℕ) → (b / 2 ^ 52 ≡ 0 → ⊥) → 2 ^ 52 ≤ b
above b h = omega arith

-- how many zeros stand before the digits of a subnormal number
zeros : (c : Start) → c.args.b / 2 ^ 52 ≡ 0 → (12 ≤ count_leading_zeros 64 c.args.b) × (count_leading_zeros 64 c.args.b ≤ 63)
zeros c h = zeros_range c.args.b c.requires.0 (below c.args.b h)

pub overflow_sub-s : goal.overflow_sub-s
overflow_sub-s c = omega (arith, (zeros (goal.at.overflow_sub-s c).Start c.if-e-eq0.true).0)

pub overflow_cast-s : goal.overflow_cast-s
overflow_cast-s c = omega (arith, (zeros (goal.at.overflow_cast-s c).Start c.if-e-eq0.true).1)

pub overflow_shl-b : goal.overflow_shl-b
overflow_shl-b c = omega (arith, (zeros (goal.at.overflow_shl-b c).Start c.if-e-eq0.true).1)

pub overflow_cast-s-then-e-eq0 : goal.overflow_cast-s-then-e-eq0
overflow_cast-s-then-e-eq0 c = overflow_cast-s c

pub overflow_sub-s-then-e-eq0 : goal.overflow_sub-s-then-e-eq0
overflow_sub-s-then-e-eq0 c = omega (arith, (zeros (goal.at.overflow_sub-s-then-e-eq0 c).Start c.if-e-eq0.true).1)

exponent : (s : ℕ) → s ≤ 52 → (1022 ≤ 1074 - s) × (1074 - s < 3120)
exponent s h = (omega arith, omega arith)

pub root_bits-requires : goal.root_bits-requires
root_bits-requires c =
    let b = c.args.b in
    let s = below b c.if-e-eq0.true in
    let r = up_range b c.requires.0 s in
    let e = exponent _ (shift_le b c.requires.0 s) in
    (r.0, r.1, e.0, e.1)

pub overflow_add-b : goal.overflow_add-b
overflow_add-b c = omega (arith, mask_lt c.args.b 52)

pub root_bits-requires-else-e-eq0 : goal.root_bits-requires-else-e-eq0
root_bits-requires-else-e-eq0 c = normal_range c.args.b _ c.requires.1 (mask_lt c.args.b 52)

pub returns-then-e-eq0 : goal.returns-then-e-eq0
returns-then-e-eq0 c =
    let b = c.args.b in
    subst (λ (n : ℕ). RootBits n c.root_bits.result) (subnormal_units b c.requires.0 (below b c.if-e-eq0.true)) c.root_bits.ensures

pub returns-else-e-eq0 : goal.returns-else-e-eq0
returns-else-e-eq0 c =
    let b = c.args.b in
    subst (λ (n : ℕ). RootBits n c.root_bits-else-e-eq0.result) (normal_units b (above b c.if-e-eq0.false)) c.root_bits-else-e-eq0.ensures
