-- Laws of segments: the segments of a layout are exactly those of its mapped frames, and a test that computes tells whether segments are apart. Assumes nothing.
use Rattle.std.specs.Prelude.{ℕ, ◌+◌, ◌<◌, ◌≡◌, refl, Bool, true, false, ◌&&◌, ◌||◌, List, [], ◌∷◌, map, ◌⊎◌, leb, Option}
use Rattle.std.proofs.Math.Bool.{and-eq-true_iff}
use Rattle.std.proofs.Common.{inl, inr, ⊎_elim, arith, leb-true}
use Rattle.std.specs.declared.option.Option.TheVariants as option
use Rattle.call_lists.specs.Lists.{Every, Some, Pairs}
use Rattle.call_lists.specs.ListLaws.{some-upto, upto-some}
use Rattle.call_lists.specs.Segments.{Layout, Segment, segment_at, frame_segment, segments_of, Has, HasRow, Disjoint}

-- ---- what some segment of a layout has, a mapped frame's has, and the other way round
module _ (P : Segment → Type 0) where
  at_offset : (width : ℕ) (p : Option ℕ) → Some P (segment_at width p) → (o : ℕ) × (p ≡ option.Some o) × P (record { offset = o; width = width })
  at_offset width (option.Some o) (inl h) = (o, refl, h)
  at_offset width (option.Some o) (inr n) = absurd n
  at_offset width option.None n = absurd n

  pub frame_of : (l : Layout) → Some P (segments_of l) → (k : ℕ) × (k < l.count) × (o : ℕ) × (l.place k ≡ option.Some o) × P (record { offset = o; width = l.width k })
  unfolding frame_segment
  frame_of l s =
      let r = upto-some P l.count (frame_segment l) s in
      let q = at_offset (l.width r.0) (l.place r.0) r.2 in
      (r.0, r.1, q.0, q.1, q.2)

  pub of_frame : (l : Layout) (k o : ℕ) → k < l.count → l.place k ≡ option.Some o → P (record { offset = o; width = l.width k }) → Some P (segments_of l)
  unfolding frame_segment
  of_frame l k o h at p = some-upto P l.count (frame_segment l) k h (rw at (inl p))

-- ---- whether segments are apart
abbrev pub all_of : {A : Type 0} → (A → Bool) → List A → Bool
all_of test [] = true
all_of test (x ∷ xs) = test x && all_of test xs

-- one segment ends before the other begins
abbrev pub segments_apart : Segment → Segment → Bool
segments_apart s t = leb (s.offset + s.width) t.offset || leb (t.offset + t.width) s.offset

abbrev pub lists_apart : List Segment → List Segment → Bool
lists_apart ss ts = all_of (λ s. all_of (segments_apart s) ts) ss

-- each list of segments and each later one
abbrev pub all_apart : List (List Segment) → Bool
all_apart [] = true
all_apart (ss ∷ lists) = all_of (lists_apart ss) lists && all_apart lists

-- ---- the test is enough
either : (a b : Bool) → a || b ≡ true → (a ≡ true) ⊎ (b ≡ true)
either true b e = inl refl
either false b e = inr e

not-both : (s t : Segment) (i : ℕ) → segments_apart s t ≡ true → Has i s → Has i t → ⊥
not-both s t i e p q =
    ⊎_elim (λ l. omega (arith, leb-true (s.offset + s.width) t.offset l)) (λ l. omega (arith, leb-true (t.offset + t.width) s.offset l))
    (either (leb (s.offset + s.width) t.offset) (leb (t.offset + t.width) s.offset) e)

not_in : (s : Segment) (ts : List Segment) (i : ℕ) → all_of (segments_apart s) ts ≡ true → Has i s → HasRow i ts → ⊥
not_in s (t ∷ ts) i e p (inl q) = not-both s t i ((and-eq-true_iff (segments_apart s t) _).0 e).0 p q
not_in s (t ∷ ts) i e p (inr q) = not_in s ts i ((and-eq-true_iff (segments_apart s t) _).0 e).1 p q
not_in s [] i e p q = q

disjoint : (ss ts : List Segment) (i : ℕ) → lists_apart ss ts ≡ true → HasRow i ss → HasRow i ts → ⊥
disjoint (s ∷ ss) ts i e (inl p) q = not_in s ts i ((and-eq-true_iff (all_of (segments_apart s) ts) _).0 e).0 p q
disjoint (s ∷ ss) ts i e (inr p) q = disjoint ss ts i ((and-eq-true_iff (all_of (segments_apart s) ts) _).0 e).1 p q
disjoint [] ts i e p q = p

module _ {A : Type 0} (segments_in : A → List Segment) where
  each : (ss : List Segment) (xs : List A) → all_of (lists_apart ss) (map segments_in xs) ≡ true → Every (λ a. Disjoint ss (segments_in a)) xs
  each ss [] e = tt
  each ss (a ∷ xs) e =
      let p = (and-eq-true_iff (lists_apart ss (segments_in a)) (all_of (lists_apart ss) (map segments_in xs))).0 e in
      ((λ i. disjoint ss (segments_in a) i p.0), each ss xs p.1)

  pub all_apart_lem : (xs : List A) → all_apart (map segments_in xs) ≡ true → Pairs (λ a b. Disjoint (segments_in a) (segments_in b)) xs
  all_apart_lem [] e = tt
  all_apart_lem (a ∷ xs) e =
      let p = (and-eq-true_iff (all_of (lists_apart (segments_in a)) (map segments_in xs)) (all_apart (map segments_in xs))).0 e in
      (each (segments_in a) xs p.0, all_apart_lem xs p.1)
