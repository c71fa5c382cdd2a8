-- Calls on slices that hold records: what is taken, and the record that a slice holds afterwards. Assumes nothing.
use Prim.Native.Nat.{ℕ, ◌/◌}
use mathlib.Core.Path.{◌≡◌, ◌∙◌}
use mathlib.Core.List.{List}
use lib.ListN.{length}
use lib.Ieee.{Float}
use Rattle.lists.specs.Part.{part}
use Rattle.refusals.specs.Refusal.{first_of}
use Rattle.refusals.proofs.Laws.{answered}
use Rattle.point_moments.specs.declared.PointMoments.{PointMoments}
use Rattle.point_moments.specs.Moments.{MOMENTS, moments_list, of_points, with_point, merged, point_reasons}
use Rattle.point_moments.proofs.Laws.{moments_again}
use Rattle.counted_moments.specs.Counted as Counted
use Rattle.moment_lists.specs.Calls.{gathered, FromPoints, push_refusal, pushed, Pushes, merge_refusal, joined, Merges}
use Rattle.moment_lists.proofs.FromPoints.{no_push_refused}

pub gather_taken : (p m m' : List Float) (r : ℕ) → length m ≡ MOMENTS → first_of (point_reasons p) ≡ 0 → FromPoints p m r m' → (r ≡ 0) × (m' ≡ moments_list (of_points (length p / 3) p))
unfolding gathered
gather_taken p m m' r h e call = answered (no_push_refused p m ∙ rw (h, e)) call

-- in the logic an array is a list of any length, so the lengths that a record's arrays have are said
abbrev pub Arrays : PointMoments → Type 0
Arrays m = (length m.sum ≡ 3) × (length m.outer ≡ 9)

pub push_taken : (m : PointMoments) (p m' : List Float) (r : ℕ) → Arrays m → length p ≡ 3 → Counted.push_refusal m (part 3 p 0) ≡ 0 → Pushes (moments_list m) p r m' → (r ≡ 0) × (m' ≡ moments_list (with_point m (part 3 p 0)))
unfolding push_refusal pushed
push_taken m p m' r a h e call =
    let t = answered (rw (h, moments_again m a.0 a.1, e)) call in
    (t.0, t.1 ∙ rw (moments_again m a.0 a.1))

pub merge_taken : (m n : PointMoments) (m' : List Float) (r : ℕ) → Arrays m → Arrays n → Counted.merge_refusal m n ≡ 0 → Merges (moments_list m) (moments_list n) r m' → (r ≡ 0) × (m' ≡ moments_list (merged m n))
unfolding merge_refusal joined
merge_taken m n m' r a b e call =
    let t = answered (rw (moments_again m a.0 a.1, moments_again n b.0 b.1, e)) call in
    (t.0, t.1 ∙ rw (moments_again m a.0 a.1, moments_again n b.0 b.1))
