-- What the theorem says of `from_points`, and of a list of points that is cut in two. Assumes nothing.
use Prim.Native.Nat.{ℕ, zero, suc, ◌+◌, ◌*◌, ◌/◌, ◌%◌, ◌≤◌, ◌<◌}
use mathlib.Core.Path.{◌≡◌, refl, sym, ap, ◌∙◌}
use mathlib.Core.Bool.{Bool, true, false, not, false≢true}
use mathlib.Core.List.{List, [], ◌∷◌, ◌++◌, append-nil, append_assoc}
use native.Mathlib.Omega.{arith}
use native.Mathlib.Nat.{add-zero, add-suc}
use lib.ListN.{length, length-append, get_or-append}
use lib.Seq.{get_or-append-add}
use lib.Dec.{eqb, ltb}
use lib.Ieee.{Float, nan}
use borrow.Author.Tests.{ltb-false, eqb-true}
use Rattle.sums.specs.Sum.{at, column}
use Rattle.sums.specs.Laws.{tab-same, get_or-tab, off-add}
use Rattle.lists.specs.Part.{◌!◌}
use Rattle.refusals.specs.Refusal.{first_of, none, either_none}
use Rattle.call_lists.specs.Lists.{Every}
use Rattle.call_lists.specs.ListLaws.{every_append}
use Rattle.point_moments.specs.Moments.{of_points, merged, point_reasons}
use Rattle.point_moments.specs.Moments as Moments
use Rattle.exact_moments.specs.Grid.{OnGrid, PointOnGrid, Within, POINTS, REACH, exact}
use Rattle.exact_moments.specs.Plan.{push, merge, points, wholes, moments, pushes}
use Rattle.exact_moments.proofs.MomentsExact.{moments-exact}

-- ---- the points of a list, pushed in order
pub pushes-moments : (n : ℕ) (l : List Float) → moments (pushes n l) ≡ of_points n l
unfolding moments pushes of_points
pushes-moments zero l = refl
pushes-moments (suc n) l = rw (pushes-moments n l)

pub pushes_count : (n : ℕ) (l : List Float) → length (points (pushes n l)) ≡ n
unfolding points pushes
pushes_count zero l = refl
pushes_count (suc n) l = omega (arith, length-append (points (pushes n l)) (column 3 l n ∷ []), pushes_count n l)

-- number k of point i is number 3·i + k of the list
point_at : (l : List Float) (i k : ℕ) → k < 3 → column 3 l i ! k ≡ l ! (i * 3 + k)
point_at l i k h = get_or-tab 3 (λ j. at 3 l j i) k h ∙ ap (λ (j : ℕ). l ! j) (off-add (i * 3) k)

every-at : (P : Float → Type 0) (l : List Float) → Every P l → (k : ℕ) → k < length l → P (l ! k)
every-at P [] h k o = absurd (omega arith)
every-at P (x ∷ l) h zero o = h.0
every-at P (x ∷ l) h (suc k) o = every-at P l h.1 k (omega arith)

-- each point of a list whose numbers are on the grid
pushes-grid : (r n : ℕ) (l : List Float) → n * 3 ≤ length l → Every (OnGrid r) l → Every (PointOnGrid r) (points (pushes n l))
unfolding points pushes
pushes-grid r zero l h g = tt
pushes-grid r (suc n) l h g =
    every_append (PointOnGrid r) (points (pushes n l)) (column 3 l n ∷ []) (pushes-grid r n l (omega arith) g) ((λ k o. rw (point_at l n k o) (every-at (OnGrid r) l g (n * 3 + k) (omega arith))), tt)

pub pushes-within : (n : ℕ) (l : List Float) → length l ≡ n * 3 → n ≤ POINTS → Every (OnGrid REACH) l → Within POINTS REACH (points (pushes n l))
pushes-within n l e h g = record { few = omega (arith, pushes_count n l); grid = pushes-grid REACH n l (omega arith) g }

-- ---- from_points
pub of_points-exact : (n : ℕ) (l : List Float) → length l ≡ n * 3 → n ≤ POINTS → Every (OnGrid REACH) l → of_points n l ≡ exact (wholes (pushes n l))
of_points-exact n l e h g = sym (pushes-moments n l) ∙ moments-exact (pushes n l) (pushes-within n l e h g)

-- a list that the call takes: whole points, and 65,536 at most
pub whole_points : (l : List Float) → first_of (point_reasons l) ≡ 0 → (length l ≡ length l / 3 * 3) × (length l / 3 ≤ Moments.MOST_POINTS)
unfolding point_reasons
whole_points l e =
    let t = either_none (not (eqb (length l % 3) 0)) (ltb Moments.MOST_POINTS (length l / 3)) (none _ 2 0 e).0 in
    (omega (arith, eqb-true (length l % 3) 0 (not-false (eqb (length l % 3) 0) t.0)), ltb-false Moments.MOST_POINTS (length l / 3) t.1)
  where
    not-false : (b : Bool) → not b ≡ false → b ≡ true
    not-false true h = refl
    not-false false h = absurd (false≢true (sym h))

pub from_points-exact : (l : List Float) → first_of (point_reasons l) ≡ 0 → Every (OnGrid REACH) l → of_points (length l / 3) l ≡ exact (wholes (pushes (length l / 3) l))
from_points-exact l e g = let s = whole_points l e in of_points-exact (length l / 3) l s.0 (omega (arith, s.1)) g

-- ---- a list of n points and one of k, which may be the two parts of a longer one
front : (n : ℕ) (l m : List Float) → n * 3 ≤ length l → pushes n (l ++ m) ≡ pushes n l
unfolding pushes
front zero l m h = refl
front (suc n) l m h =
    rw (front n l m (omega arith)) (ap (push (pushes n l)) (tab-same 3 (λ r. at 3 (l ++ m) r n) (λ r. at 3 l r n) (λ r k. rw (off-add (n * 3) r) (get_or-append l m nan (n * 3 + r) (omega arith)))))

back : (n : ℕ) (l m : List Float) (i : ℕ) → length l ≡ n * 3 → column 3 (l ++ m) (n + i) ≡ column 3 m i
back n l m i e = tab-same 3 (λ r. at 3 (l ++ m) r (n + i)) (λ r. at 3 m r i) (λ r k.
    let q : (n + i) * 3 + r ≡ length l + (i * 3 + r) = omega arith in
    rw (off-add ((n + i) * 3) r, off-add (i * 3) r, q) (get_or-append-add l m (i * 3 + r) nan))

pub both-points : (n k : ℕ) (l m : List Float) → length l ≡ n * 3 → points (pushes (n + k) (l ++ m)) ≡ points (pushes n l) ++ points (pushes k m)
unfolding points pushes
both-points n zero l m e = rw (add-zero n, front n l m (omega arith), append-nil (points (pushes n l)))
both-points n (suc k) l m e = rw (add-suc n k, both-points n k l m e, back n l m k e, append_assoc (points (pushes n l)) (points (pushes k m)) (column 3 m k ∷ []))

pub cut_anywhere : (n k : ℕ) (l m : List Float) → length l ≡ n * 3 → length m ≡ k * 3 → n + k ≤ POINTS → Every (OnGrid REACH) (l ++ m) → merged (of_points n l) (of_points k m) ≡ of_points (n + k) (l ++ m)
unfolding moments points
cut_anywhere n k l m e f h g =
    let j = both-points n k l m e in
    let w : Within POINTS REACH (points (pushes (n + k) (l ++ m))) = pushes-within (n + k) (l ++ m) (omega (arith, length-append l m)) h g in
    let p : merged (of_points n l) (of_points k m) ≡ exact (wholes (merge (pushes n l) (pushes k m))) = rw (← pushes-moments n l, ← pushes-moments k m) (moments-exact (merge (pushes n l) (pushes k m)) (rw j at w)) in
    p ∙ rw (← j) (sym (of_points-exact (n + k) (l ++ m) (omega (arith, length-append l m)) h g))
