-- `square_root::pack` meets its contract: `Rounded.antt`. Assumes nothing.
use Rattle.std.proofs.Common.{◌≡◌, ℕ, ◌+◌, ◌-◌, ◌*◌, ◌/◌, ◌%◌, ◌^◌, ◌<◌, ◌≤◌, arith}
use Rattle.square_root.proofs.Normal.{range}
use Rattle.square_root.proofs.Rounded.{s_hi, packed, split_exponent}
use Rattle.square_root.proofs.pack.Goals as goal
use Rattle.square_root.proofs.pack.Goals.{Start}

-- the root is below 2 ^ 54 - 1
root_lt : (c : Start) → c.args.s < 2 ^ 54 - 1
root_lt c = let r = range c.args.m c.args.l c.requires.0 c.requires.1 in s_hi _ c.args.s c.requires.4 r.0 r.1

pub overflow_add-result : goal.overflow_add-result
overflow_add-result c = omega (arith, root_lt c)

exponent : (l : ℕ) → 1022 ≤ l → l ≡ l % 2 + (l / 2 - 26 + (l / 2 - 26) + 52)
exponent l h = omega arith

field : (l q : ℕ) → l < 3120 → (l / 2 - 26) * 2 ^ 52 % 2 ^ 64 + q ≡ (l / 2 - 26) * 2 ^ 52 + q
field l q h = omega arith

small : (l : ℕ) → l < 3120 → l / 2 - 26 < 2045
small l h = omega arith

pub returns : goal.returns
returns c =
    let m = c.args.m in
    let l = c.args.l in
    let k = l / 2 - 26 in
    let s = c.args.s in
    let r = range m l c.requires.0 c.requires.1 in
    packed (m * 2 ^ (l % 2)) s c.requires.4 r.0 r.1 (m * 2 ^ l) k (k * 2 ^ 52 % 2 ^ 64 + (s + 1) / 2) (split_exponent m l k (exponent l c.requires.2)) (small l c.requires.3) (field l ((s + 1) / 2) c.requires.3)
