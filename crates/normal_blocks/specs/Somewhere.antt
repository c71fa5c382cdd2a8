-- Whether a test holds somewhere below n, and what is known where it holds nowhere. Assumes nothing.
use Prim.Native.Nat.{ℕ, zero, suc, ◌+◌, ◌<◌}
use Rattle.std.specs.Prelude.{◌≡◌, Bool, true, false, ◌||◌}
use Rattle.std.proofs.Math.Path.{refl, ap}
use Rattle.std.proofs.Common.{sym, ◌∙◌, true≢false, not-suc-le-zero, eq-or-lt_of_le, le_of_suc-le-suc, add-one}
use Rattle.std.proofs.Math.Bool.{or-true}
use Rattle.std.proofs.Math.Logic.{⊎_elim}

-- test 0 or test 1 or .. or test (n - 1)
unfoldable pub somewhere : ℕ → (ℕ → Bool) → Bool
somewhere zero test = false
somewhere (suc n) test = somewhere n test || test n

module _ (test : ℕ → Bool) where
  -- a loop that looks at one place after another: before its first turn, and where it does not stop at k
  pub nowhere-none : somewhere 0 test ≡ false
  unfolding somewhere
  nowhere-none = refl

  pub nowhere_more : (k : ℕ) → somewhere k test ≡ false → test k ≡ false → somewhere (k + 1) test ≡ false
  unfolding somewhere
  nowhere_more k h e = rw (add-one k, somewhere, h, e)

  -- and one that looks at every place
  pub somewhere_more : (k : ℕ) (b : Bool) → b ≡ somewhere k test → b || test k ≡ somewhere (k + 1) test
  unfolding somewhere
  somewhere_more k b e = rw (add-one k, somewhere, e)

  -- where it stops
  pub somewhere-at : (n k : ℕ) → k < n → test k ≡ true → somewhere n test ≡ true
  unfolding somewhere
  somewhere-at zero k h e = absurd (not-suc-le-zero h)
  somewhere-at (suc n) k h e =
      ⊎_elim (λ (q : k ≡ n). ap (λ (b : Bool). somewhere n test || b) (ap test (sym q) ∙ e) ∙ or-true (somewhere n test))
      (λ (l : k < n). rw (somewhere-at n k l e)) (eq-or-lt_of_le (le_of_suc-le-suc h))

  -- what a caller knows where it holds nowhere
  neither : (a b : Bool) → a || b ≡ false → (a ≡ false) × (b ≡ false)
  neither true b e = absurd (true≢false e)
  neither false b e = (refl, e)

  pub nowhere-at : (n : ℕ) → somewhere n test ≡ false → (k : ℕ) → k < n → test k ≡ false
  unfolding somewhere
  nowhere-at zero e k h = absurd (not-suc-le-zero h)
  nowhere-at (suc n) e k h =
      let p = neither (somewhere n test) (test n) e in
      ⊎_elim (λ (q : k ≡ n). ap test q ∙ p.1) (λ (l : k < n). nowhere-at n p.0 k l) (eq-or-lt_of_le (le_of_suc-le-suc h))
