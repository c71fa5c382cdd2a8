-- What a call takes: lists of 0 to 65,536 records with an output as long, and nothing else. Assumes nothing.
use Prim.Native.Nat.{ℕ, ◌/◌, ◌%◌, ◌≤◌}
use mathlib.Core.Path.{◌≡◌}
use mathlib.Core.Bool.{false, not, ◌||◌}
use mathlib.Core.List.{List}
use native.Mathlib.Omega.{arith}
use lib.Dec.{ltb, eqb}
use lib.ListN.{length}
use borrow.Author.Tests.{le-ltb, ltb-false, eq-eqb, eqb-true, not-false}
use Rattle.refusals.specs.Refusal.{none, either_none}
use Rattle.point_moments.specs.Moments.{MOMENTS}
use Rattle.cards.specs.Calls.{MOST_RECORDS, Records, bad_lengths, card_refusal}

pub taken : (n : ℕ) (from to : List ℕ) → Records n from → length to ≡ length from → card_refusal from to ≡ 0
unfolding card_refusal bad_lengths
taken n from to (most, size) same =
    let whole : length from % MOMENTS ≡ 0 = omega arith in
    let few : length from / MOMENTS ≤ MOST_RECORDS = omega arith in
    rw (eq-eqb _ _ whole, le-ltb _ _ few, eq-eqb _ _ same)

-- lengths that are not refused
pub good_lengths : (from to : ℕ) → bad_lengths from to ≡ false → (from % MOMENTS ≡ 0) × (from / MOMENTS ≤ MOST_RECORDS) × (to ≡ from)
unfolding bad_lengths
good_lengths from to h =
    let p = either_none (not (eqb (from % MOMENTS) 0)) (ltb MOST_RECORDS (from / MOMENTS) || not (eqb to from)) h in
    let q = either_none (ltb MOST_RECORDS (from / MOMENTS)) (not (eqb to from)) p.1 in
    (eqb-true _ _ (not-false _ p.0), ltb-false _ _ q.0, eqb-true to from (not-false (eqb to from) q.1))

pub taken_only : (from to : List ℕ) → card_refusal from to ≡ 0 → Records (length from / MOMENTS) from × (length to ≡ length from)
unfolding card_refusal
taken_only from to h =
    let good = good_lengths (length from) (length to) (none (bad_lengths (length from) (length to)) 2 0 h).0 in
    ((good.1, omega (arith, good.0)), good.2)
