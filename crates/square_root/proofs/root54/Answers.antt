-- `square_root::root54` meets its contract: `Halves.antt`. Assumes nothing.
use Rattle.std.proofs.Common.{◌≡◌, ℕ, ◌+◌, ◌-◌, ◌*◌, ◌/◌, ◌%◌, ◌^◌, ◌<◌, ◌≤◌, sym, refl, subst, mul-le-mul, arith, w64, Fits}
use mir.Facts.{Fits-below}
use Rattle.square_root.specs.Steps.{Root}
use Rattle.square_root.proofs.Halves as H
use Rattle.square_root.proofs.root54.Goals as goal

-- the locals, as the code has them
abbrev up : (n s : ℕ) → ℕ
up n s = (n - s * s) * 2 ^ 27 % 2 ^ 64

module _ (n s : ℕ) (w : Root n s) (lo : 2 ^ 52 ≤ n) (hi : n < 2 ^ 54) where
  twice_fits : Fits w64 (2 * s)
  twice_fits = let h = H.s_hi n s w lo hi in omega arith

  quot_le : up n s / (2 * s) ≤ 2 ^ 27
  quot_le = subst (λ (a : ℕ). a / (2 * s) ≤ 2 ^ 27) (sym (H.up_is n s w lo hi)) (H.q-le n s w lo hi)

  sum_fits : Fits w64 (s * 2 ^ 27 % 2 ^ 64 + up n s / (2 * s))
  sum_fits = let h = H.s_hi n s w lo hi in let k = quot_le in go (up n s / (2 * s)) h k
    where
      go : (q : ℕ) → s < 2 ^ 27 → q ≤ 2 ^ 27 → Fits w64 (s * 2 ^ 27 % 2 ^ 64 + q)
      go q h k = omega arith

  square_fits : Fits w64 (up n s / (2 * s) * (up n s / (2 * s)))
  square_fits = Fits-below {n = 2 ^ 54} tt (mul-le-mul quot_le quot_le)

  positive : 1 ≤ s * 2 ^ 27 % 2 ^ 64 + up n s / (2 * s)
  positive = subst (λ (t : ℕ). 1 ≤ t + up n s / (2 * s)) (sym (H.top_is n s w lo hi)) (let k = H.s_lo n s w lo hi in go (up n s / (2 * s)) k)
    where
      go : (q : ℕ) → 2 ^ 26 ≤ s → 1 ≤ s * 2 ^ 27 + q
      go q k = omega arith

  left_is : up n s % (2 * s) * 2 ^ 27 % 2 ^ 64 ≡ up n s % (2 * s) * 2 ^ 27
  left_is = go (up n s % (2 * s)) (subst (λ (a : ℕ). a % (2 * s) < 2 ^ 28) (sym (H.up_is n s w lo hi)) (H.u-lt n s w lo hi))
    where
      go : (u : ℕ) → u < 2 ^ 28 → u * 2 ^ 27 % 2 ^ 64 ≡ u * 2 ^ 27
      go u h = omega arith

pub overflow_mul-q : goal.overflow_mul-q
overflow_mul-q c = twice_fits c.args.n c.root27-s.result c.root27-s.ensures c.requires.0 c.requires.1

pub nonzero_div-q : goal.nonzero_div-q
nonzero_div-q c = H.two-s c.args.n c.root27-s.result c.root27-s.ensures c.requires.0 c.requires.1

pub overflow_mul-u : goal.overflow_mul-u
overflow_mul-u c = overflow_mul-q c

pub nonzero_rem-u : goal.nonzero_rem-u
nonzero_rem-u c = nonzero_div-q c

pub overflow_add-r : goal.overflow_add-r
overflow_add-r c = sum_fits c.args.n c.root27-s.result c.root27-s.ensures c.requires.0 c.requires.1

pub overflow_mul-q-2 : goal.overflow_mul-q-2
overflow_mul-q-2 c = square_fits c.args.n c.root27-s.result c.root27-s.ensures c.requires.0 c.requires.1

pub overflow_sub-result : goal.overflow_sub-result
overflow_sub-result c = positive c.args.n c.root27-s.result c.root27-s.ensures c.requires.0 c.requires.1

pub returns-then-u-q : goal.returns-then-u-q
returns-then-u-q c =
    let n = c.args.n in
    let s = c.root27-s.result in
    let w = c.root27-s.ensures in
    let lo = c.requires.0 in
    let hi = c.requires.1 in
    H.result_less n s w lo hi (up n s) (up n s / (2 * s)) (up n s % (2 * s)) (s * 2 ^ 27 % 2 ^ 64) (H.up_is n s w lo hi) refl refl (H.top_is n s w lo hi)
    (subst (λ (k : ℕ). k < up n s / (2 * s) * (up n s / (2 * s))) (left_is n s w lo hi) c.if-u-q.true)

pub returns-else-u-q : goal.returns-else-u-q
returns-else-u-q c =
    let n = c.args.n in
    let s = c.root27-s.result in
    let w = c.root27-s.ensures in
    let lo = c.requires.0 in
    let hi = c.requires.1 in
    H.result n s w lo hi (up n s) (up n s / (2 * s)) (up n s % (2 * s)) (s * 2 ^ 27 % 2 ^ 64) (H.up_is n s w lo hi) refl refl (H.top_is n s w lo hi)
    (subst (λ (k : ℕ). up n s / (2 * s) * (up n s / (2 * s)) ≤ k) (left_is n s w lo hi) c.if-u-q.false)
