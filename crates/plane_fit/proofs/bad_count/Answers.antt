-- `plane_fit::bad_count` meets its contract: a length is a multiple of the size exactly by its quotient. Assumes nothing.
use mathlib.Core.Path.{◌≡◌, refl, sym, ap, ◌∙◌}
use mathlib.Core.Bool.{Bool, true, false, not}
use Prim.Native.Nat.{ℕ, ◌*◌, ◌/◌, ◌%◌, ◌<◌}
use native.Mathlib.Nat.{div-add-mod, mul-div_cancel_left, mul-mod_right}
use native.Mathlib.Omega.{arith}
use lib.Dec.{eqb}
use borrow.Author.Tests.{eq-eqb, ne_eqb, eqb-true, eqb-false}
use Rattle.plane_fit.specs.Calls.{bad_count}
use Rattle.plane_fit.proofs.bad_count.Goals as goal

not_whole : (l s n : ℕ) → (l % s ≡ 0 → ⊥) → eqb l (s * n) ≡ false
not_whole l s n h = ne_eqb l (s * n) (λ e. h (ap (λ x. x % s) e ∙ mul-mod_right s n))

by_quotient : (l s n : ℕ) → 0 < s → l % s ≡ 0 → eqb (l / s) n ≡ eqb l (s * n)
by_quotient l s n some h = go (eqb (l / s) n) refl
  where
    go : (b : Bool) → eqb (l / s) n ≡ b → b ≡ eqb l (s * n)
    go true e =
        let q : l / s ≡ n = eqb-true (l / s) n e in
        let w : s * (l / s) ≡ l = omega (arith, div-add-mod l s) in
        sym (eq-eqb l (s * n) (sym w ∙ ap (λ x. s * x) q))
    go false e = sym (ne_eqb l (s * n) (λ z. eqb-false (l / s) n e (ap (λ x. x / s) z ∙ mul-div_cancel_left n some)))

pub returns-then-others-other-ne0 : goal.returns-then-others-other-ne0
unfolding bad_count
returns-then-others-other-ne0 c = rw (ne_eqb _ _ c.if-others-other-ne0.true, not_whole _ _ _ c.if-others-other-ne0.true)

pub returns-else-others-other-ne0 : goal.returns-else-others-other-ne0
unfolding bad_count
returns-else-others-other-ne0 c = ap not (by_quotient _ _ _ c.requires.1 c.if-others-other-ne0.false)
