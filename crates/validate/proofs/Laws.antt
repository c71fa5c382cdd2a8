-- Laws of the tests: what comparing with the infinities tells, and what holds at each place of a list. Assumes nothing.
use Prim.Native.Nat.{ℕ, zero, suc, ◌+◌, ◌<◌}
use native.Mathlib.Numerals.{add-one}
use native.Mathlib.Nat.{le_of_suc-le-suc, not-suc-le-zero}
use native.Mathlib.Omega.{arith}
use mathlib.Core.Path.{◌≡◌, refl, sym}
use mathlib.Core.Bool.{Bool, true, false, ◌&&◌, and-true, and-false, and_assoc, and-eq-true_iff}
use mathlib.Core.List.{List, [], ◌∷◌, ◌++◌}
use lib.ListN.{length, get_or, drop}
use lib.Seq.{drop-cons, drop-length}
use lib.Ieee.{Float, nan, inf, fin, lt}
use lib.Ieee.Scale.{finite}
use Rattle.validate.specs.Finite.{all_finite, finite_above}

-- finite: between the infinities
pub between : (x : Float) → lt (inf true) x && lt x (inf false) ≡ finite x
unfolding lt
between nan = refl
between (inf true) = refl
between (inf false) = refl
between (fin s m e) = refl

-- nothing is below a NaN, and nothing below -∞
below_nan : (b : Float) → lt b nan ≡ false
unfolding lt
below_nan nan = refl
below_nan (inf s) = refl
below_nan (fin s m e) = refl

below_bottom : (b : Float) → lt b (inf true) ≡ false
unfolding lt
below_bottom nan = refl
below_bottom (inf s) = and-false s
below_bottom (fin s m e) = refl

-- finite and above a bound, whatever that is: between it and +∞
pub under_top : (b x : Float) → lt b x && lt x (inf false) ≡ finite_above b x
unfolding lt finite_above
under_top b nan = rw (below_nan b)
under_top b (inf true) = rw (below_bottom b)
under_top b (inf false) = and-false (lt b (inf false))
under_top b (fin s m e) = and-true (lt b (fin s m e))

-- one number more of a list that is tested from the front: what is found so far, and the rest
pub tested_more : (found : Bool) (l : List Float) (k : ℕ) → k < length l → found && all_finite (drop k l) ≡ found && finite (get_or l k nan) && all_finite (drop (k + 1) l)
unfolding all_finite
tested_more found l k h = rw (add-one k, drop-cons l k nan h) (sym (and_assoc found (finite (get_or l k nan)) (all_finite (drop (suc k) l))))

pub tested_all : (found : Bool) (l : List Float) → found && all_finite (drop (length l) l) ≡ found
unfolding all_finite
tested_all found l = rw drop-length (and-true found)

-- every number of a list is finite exactly if the one at each place is
pub finite_at : (l : List Float) → all_finite l ≡ true → (k : ℕ) → k < length l → finite (get_or l k nan) ≡ true
unfolding all_finite
finite_at [] h k j = absurd (not-suc-le-zero j)
finite_at (x ∷ l) h zero j = ((and-eq-true_iff (finite x) (all_finite l)).0 h).0
finite_at (x ∷ l) h (suc k) j = finite_at l ((and-eq-true_iff (finite x) (all_finite l)).0 h).1 k (le_of_suc-le-suc j)

pub finite_all : (l : List Float) → ((k : ℕ) → k < length l → finite (get_or l k nan) ≡ true) → all_finite l ≡ true
unfolding all_finite
finite_all [] h = refl
finite_all (x ∷ l) h = rw (h 0 (omega arith), finite_all l (λ k j. h (suc k) (omega arith)))

-- two lists, one after the other
pub finite_both : (a b : List Float) → all_finite (a ++ b) ≡ (all_finite a && all_finite b)
unfolding all_finite
finite_both [] b = refl
finite_both (x ∷ a) b = rw (finite_both a b) (sym (and_assoc (finite x) (all_finite a) (all_finite b)))
