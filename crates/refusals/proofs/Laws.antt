-- Tests in two parts, one after the other, and which numbers they give; what an accepted call leaves. Assumes nothing.
use Prim.Native.Nat.{ℕ, zero, suc, ◌≤◌}
use mathlib.Core.Path.{◌≡◌, refl, ◌∙◌}
use mathlib.Core.Bool.{Bool, true, false, ◌&&◌, cond}
use native.Mathlib.Omega.{arith}
use mathlib.Core.List.{List, [], ◌∷◌, ◌++◌}
use lib.Dec.{T, leb, leb→le}
use lib.Ieee.Fits.{and_l, and_r}
use Rattle.refusals.specs.Refusal.{Reason, first_of, kept, Answered}

-- a number is not 0, and none of a list's is
abbrev pub some : ℕ → Bool
some zero = false
some (suc k) = true

abbrev pub numbered : List Reason → Bool
numbered [] = true
numbered (r ∷ rs) = some r.number && numbered rs

-- the number that the first part gives, or where that is 0 the one that the second gives
pub first_of_both : (rs more : List Reason) → T (numbered rs) → first_of (rs ++ more) ≡ kept (first_of rs) (first_of rs) (first_of more)
first_of_both [] more t = refl
first_of_both (r ∷ rs) more t = go r.applies r.number t (first_of_both rs more)
  where
    go : (b : Bool) (k : ℕ) → T (some k && numbered rs) → (T (numbered rs) → first_of (rs ++ more) ≡ kept (first_of rs) (first_of rs) (first_of more))
        → cond b k (first_of (rs ++ more)) ≡ kept (cond b k (first_of rs)) (cond b k (first_of rs)) (first_of more)
    go b zero u later = absurd u
    go true (suc k) u later = refl
    go false (suc k) u later = later u

-- refused by the first part
pub first-refused : (first k rest : ℕ) → k ≡ first → (k ≡ 0 → ⊥) → kept first first rest ≡ k
first-refused first zero rest e n = absurd (n refl)
first-refused first (suc k) rest e n = rw (← e)

-- an answer is 0 or one of the numbers
abbrev pub at_most : ℕ → List Reason → Bool
at_most n [] = true
at_most n (r ∷ rs) = leb r.number n && at_most n rs

pub first-at-most : (n : ℕ) (rs : List Reason) → T (at_most n rs) → first_of rs ≤ n
first-at-most n [] t = omega arith
first-at-most n (r ∷ rs) t = go r.applies (first-at-most n rs (and_r (leb r.number n) (at_most n rs) t))
  where
    go : (b : Bool) → first_of rs ≤ n → cond b r.number (first_of rs) ≤ n
    go true later = leb→le r.number n (and_l (leb r.number n) (at_most n rs) t)
    go false later = later

-- a call that nothing speaks against answers 0 and leaves what it should
pub answered : {A : Type 0} {refusal r : ℕ} {old left new : A} → refusal ≡ 0 → Answered refusal r old left new → (r ≡ 0) × (left ≡ new)
answered e a = (a.number_is ∙ e, rw e at a.left_is)
