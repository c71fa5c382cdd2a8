-- An accepted push or merge of whole counts is exact: the new count is the sum, where that is not below -2^53. A push into a whole count that is refused would have been wrong.
-- Whether a merge is refused does not depend on which set is merged into which. Sets of at most 2^53 points together are not refused. Assumes nothing.
use Prim.Native.Nat.{ℕ, ◌+◌, ◌≤◌, ◌<◌}
use mathlib.Core.Path.{◌≡◌, refl}
use mathlib.Core.Bool.{Bool, true, false, cond}
use mathlib.Core.List.{List}
use native.Mathlib.Omega.{arith}
use lib.IntN.{ℤ, pos, ◌+ℤ◌}
use lib.Dec.{T}
use lib.Ieee.{Float, binary64, fits}
use borrow.Author.Tests.{lt-leb, le-ltb}
use Rattle.refusals.specs.Refusal.{none}
use Rattle.counts.specs.Whole.{Whole, NotBelow}
use Rattle.counts.specs.Saturation.{MOST, push_saturates, merge_saturates}
use Rattle.counts.proofs.Laws.{merge_comm, push_whole, merge_whole}
use Rattle.counts.proofs.Exact as Exact
use Rattle.point_moments.specs.declared.PointMoments.{PointMoments}
use Rattle.point_moments.specs.Moments.{with_point, merged}
use Rattle.point_moments.proofs.Counts.{one_is}
use Rattle.counted_moments.specs.Counted.{push_reasons, merge_reasons, push_refusal, merge_refusal}

-- the one reason applies
full : (b : Bool) → ◌≡◌ {A = ℕ} (cond b 15 0) 15 → b ≡ true
full true h = refl
full false h = absurd (omega arith)

pub push_exact : (m : PointMoments) (p : List Float) (z : ℤ) → Whole m.count z → NotBelow (z +ℤ pos 1) → push_refusal m p ≡ 0 → Whole (with_point m p).count (z +ℤ pos 1)
unfolding push_reasons with_point
push_exact m p z w l h = rw one_is (Exact.push_exact m.count z w l (none (push_saturates m.count) 14 0 h).0)

pub push_wrong : (m : PointMoments) (p : List Float) (n : ℕ) → T (fits binary64 m.count) → Whole m.count (pos n) → push_refusal m p ≡ 15 → Whole (with_point m p).count (pos (n + 1)) → ⊥
unfolding push_reasons with_point
push_wrong m p n f w h v = Exact.push_wrong m.count n f w (full (push_saturates m.count) h) (rw one_is at v)

pub merge_exact : (m o : PointMoments) (z w : ℤ) → Whole m.count z → Whole o.count w → NotBelow (z +ℤ w) → merge_refusal m o ≡ 0 → Whole (merged m o).count (z +ℤ w)
unfolding merge_reasons merged
merge_exact m o z w u v l h = Exact.merge_exact m.count o.count z w u v l (none (merge_saturates m.count o.count) 14 0 h).0

pub either_way : (m o : PointMoments) → merge_refusal m o ≡ merge_refusal o m
unfolding merge_reasons
either_way m o = rw (merge_comm m.count o.count)

-- ---- of sets that count n and k points: there is room for one more, and for both together
pub push_accepted : (m : PointMoments) (p : List Float) (n : ℕ) → Whole m.count (pos n) → n < MOST → push_refusal m p ≡ 0
unfolding push_reasons
push_accepted m p n w h = rw (push_whole m.count (pos n) w, lt-leb MOST n h)

pub merge_accepted : (m o : PointMoments) (n k : ℕ) → Whole m.count (pos n) → Whole o.count (pos k) → n + k ≤ MOST → merge_refusal m o ≡ 0
unfolding merge_reasons
merge_accepted m o n k w v h = rw (merge_whole m.count o.count (pos n) (pos k) w v, le-ltb MOST (n + k) h)
