-- Points pushed one after the other into the empty set: no push of the first 2^53 is refused, and the next one is, by 15. Assumes nothing.
use Prim.Native.Nat.{ℕ, zero, suc, ◌≤◌}
use mathlib.Core.Path.{◌≡◌, refl, ◌∙◌}
use mathlib.Core.List.{List, [], ◌∷◌, ◌++◌}
use native.Mathlib.Omega.{arith}
use lib.Dec.{T, leb}
use lib.IntN.{pos}
use lib.Ieee.{Float}
use lib.Ieee.Fits.{and_i, and_l, and_r}
use borrow.Author.Tests.{lt-leb, le-leb}
use Rattle.sums.specs.Sum.{column}
use Rattle.refusals.specs.Refusal.{Reason, first_of}
use Rattle.refusals.proofs.Laws.{some, numbered, first_of_both}
use Rattle.counts.specs.Whole.{float_of}
use Rattle.counts.specs.Saturation.{MOST, push_saturates}
use Rattle.counts.proofs.Whole.{float_whole}
use Rattle.counts.proofs.Laws.{push_whole}
use Rattle.point_moments.specs.Moments.{of_points}
use Rattle.point_moments.proofs.Counts.{count_of_points}
use Rattle.counted_moments.specs.Counted.{push_reasons, pushes_reasons}

-- ---- no number is 0
both-numbered : (rs more : List Reason) → T (numbered rs) → T (numbered more) → T (numbered (rs ++ more))
both-numbered [] more t u = u
both-numbered (r ∷ rs) more t u = and_i (some r.number) (numbered (rs ++ more)) (and_l (some r.number) (numbered rs) t) (both-numbered rs more (and_r (some r.number) (numbered rs) t) u)

pushes-numbered : (n : ℕ) (p : List Float) → T (numbered (pushes_reasons n p))
unfolding pushes_reasons push_reasons
pushes-numbered zero p = tt
pushes-numbered (suc n) p = both-numbered (pushes_reasons n p) (push_reasons (of_points n p) (column 3 p n)) (pushes-numbered n p) tt

-- ---- the push after n points
next_push : (n : ℕ) (p : List Float) → n ≤ MOST → push_saturates (of_points n p).count ≡ leb MOST n
next_push n p h = rw (count_of_points n p h) (push_whole (float_of (pos n)) (pos n) (float_whole (pos n) (omega arith)))

pub pushes_accepted : (n : ℕ) (p : List Float) → n ≤ MOST → first_of (pushes_reasons n p) ≡ 0
unfolding pushes_reasons push_reasons
pushes_accepted zero p h = refl
pushes_accepted (suc n) p h =
    first_of_both (pushes_reasons n p) (push_reasons (of_points n p) (column 3 p n)) (pushes-numbered n p)
    ∙ rw (pushes_accepted n p (omega arith), next_push n p (omega arith), lt-leb MOST n (omega arith))

pub next-refused : (n : ℕ) (p : List Float) → n ≡ MOST → first_of (pushes_reasons (suc n) p) ≡ 15
unfolding pushes_reasons push_reasons
next-refused n p e =
    first_of_both (pushes_reasons n p) (push_reasons (of_points n p) (column 3 p n)) (pushes-numbered n p)
    ∙ rw (pushes_accepted n p (omega arith), next_push n p (omega arith), le-leb MOST n (omega arith))
