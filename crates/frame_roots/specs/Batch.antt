-- The roots of a batch of frames, number after number in one array (`batches`): what they are, and how they fill up. Assumes nothing.
use Rattle.std.specs.Prelude.{ℕ, ◌+◌, ◌*◌, ◌<◌, ◌≤◌, ◌≡◌, refl, List, [], ◌∷◌, length, Float}
use Rattle.std.proofs.Common.{not-suc-le-zero, add-zero, arith, ap, ◌∙◌}
use Rattle.sums.specs.Laws.{up_to}
use Rattle.sums.specs.Fill.{written, length-written, written-before, written_inside}
use Rattle.lists.specs.Part.{◌!◌}
use Rattle.batches.specs.Beside.{beside_of, put_beside, Beside, beside_more}
use Rattle.square_root.specs.Computed.{square_root}
use Rattle.square_root.specs.Many.{RootsOf}
use Rattle.plane_fit.specs.Fit.{frame_at}
use Rattle.frame_roots.specs.Roots.{radicands_of, root_of, root_with, decomposition_at}
use Rattle.frame_roots.specs.declared.Root.{Root}

-- the most frames of a batch, and how many numbers their roots and their rows are
abbrev pub BATCH : ℕ
BATCH = 8

abbrev pub ROOTS : ℕ
ROOTS = 80

abbrev pub FOURS : ℕ
FOURS = 32

-- the ten numbers of a root, and the root that has them
abbrev pub numbers_of : Root → List Float
numbers_of r =
    (r.first ! 0) ∷ (r.first ! 1) ∷ (r.first ! 2) ∷ (r.second ! 0) ∷ (r.second ! 1) ∷ (r.second ! 2) ∷ (r.third ! 0) ∷ (r.third ! 1) ∷ (r.third ! 2) ∷ r.last ∷ []

abbrev pub root_by : List Float → Root
root_by v = record { first = (v ! 0) ∷ (v ! 1) ∷ (v ! 2) ∷ []; second = (v ! 3) ∷ (v ! 4) ∷ (v ! 5) ∷ []; third = (v ! 6) ∷ (v ! 7) ∷ (v ! 8) ∷ []; last = v ! 9 }

-- the root of the batch's k-th frame, and that of frame f of a call
abbrev pub root_in : List Float → ℕ → Root
root_in roots k = root_by (beside_of BATCH 10 roots k)

abbrev pub root_at : List Float → List ℕ → ℕ → Root
root_at frames ds f = root_of (decomposition_at ds (f + 1)) (frame_at frames f).count

-- the first `size` roots of a batch are those of the frames from `from` on
abbrev pub Rooted : List Float → List ℕ → ℕ → ℕ → List Float → Type 0
Rooted frames ds from size roots = Beside BATCH 10 (λ k. numbers_of (root_at frames ds (from + k))) size roots

-- the four numbers of the k-th frame in a list of four a frame
abbrev pub four_of : List Float → ℕ → List Float
four_of fours k = (fours ! (4 * k)) ∷ (fours ! (4 * k + 1)) ∷ (fours ! (4 * k + 2)) ∷ (fours ! (4 * k + 3)) ∷ []

-- the first `size` fours are what roots are taken of in the frames from `from` on
pub record Radicands (frames : List Float) (ds : List ℕ) (from size : ℕ) (fours : List Float) : Type 0 where
  pub long : length fours ≡ FOURS
  pub each : (k : ℕ) → k < size → four_of fours k ≡ radicands_of (decomposition_at ds (from + k + 1)) (frame_at frames (from + k)).count

-- the roots of four numbers
abbrev pub roots_of_four : List Float → List Float
roots_of_four v = square_root (v ! 0) ∷ square_root (v ! 1) ∷ square_root (v ! 2) ∷ square_root (v ! 3) ∷ []

-- the first `size` roots of a batch are those that the fours make
abbrev pub RootedWith : List ℕ → ℕ → List Float → ℕ → List Float → Type 0
RootedWith ds from fours size roots = Beside BATCH 10 (λ k. numbers_of (root_with (decomposition_at ds (from + k + 1)) (four_of fours k))) size roots

-- ---- laws

-- a four that was put, and one before it
four_here : (fours v : List Float) (k : ℕ) → 4 * k + 4 ≤ length fours → four_of (written fours (4 * k) 4 (λ j. v ! j)) k ≡ (v ! 0) ∷ (v ! 1) ∷ (v ! 2) ∷ (v ! 3) ∷ []
four_here fours v k fit =
    let at : 4 * k ≤ length fours = omega arith in
    let inside = written_inside fours (4 * k) 4 (λ j. v ! j) in
    let first : written fours (4 * k) 4 (λ j. v ! j) ! (4 * k) ≡ v ! 0 = rw add-zero at (inside 0 at (omega arith)) in
    cc (first, inside 1 at (omega arith), inside 2 at (omega arith), inside 3 at (omega arith))

four_other : (fours v : List Float) (i k : ℕ) → 4 * k + 4 ≤ length fours → i < k → four_of (written fours (4 * k) 4 (λ j. v ! j)) i ≡ four_of fours i
four_other fours v i k fit l =
    let at : 4 * k ≤ length fours = omega arith in
    let before = written-before fours (4 * k) 4 (λ j. v ! j) in
    cc (before (4 * i) at (omega arith), before (4 * i + 1) at (omega arith), before (4 * i + 2) at (omega arith), before (4 * i + 3) at (omega arith))

-- what roots are taken of: none yet, and one frame's more
module _ (frames : List Float) (ds : List ℕ) (from : ℕ) where
  pub radicands_none : {fours : List Float} → length fours ≡ FOURS → Radicands frames ds from 0 fours
  radicands_none long = record { long = long; each = λ k l. absurd (not-suc-le-zero l) }

  pub radicands_more : {k : ℕ} {fours fours' v : List Float} → k < BATCH → v ≡ radicands_of (decomposition_at ds (from + k + 1)) (frame_at frames (from + k)).count → fours' ≡ written fours (4 * k) 4 (λ j. v ! j)
      → Radicands frames ds from k fours → Radicands frames ds from (k + 1) fours'
  radicands_more {k} {fours} {fours'} {v} l is put before =
      let fit : 4 * k + 4 ≤ length fours = omega (arith, before.long) in
      record {
        long = ap length put ∙ length-written fours (4 * k) 4 (λ j. v ! j) fit ∙ before.long;
        each = up_to {P = λ i. four_of fours' i ≡ radicands_of (decomposition_at ds (from + i + 1)) (frame_at frames (from + i)).count} k
            (rw put (four_here fours v k fit ∙ ap (λ (w : List Float). (w ! 0) ∷ (w ! 1) ∷ (w ! 2) ∷ (w ! 3) ∷ []) is))
            (λ i m. rw put (four_other fours v i k fit m ∙ before.each i m));
      }

  -- with the roots of these the roots of the batch are those of its frames
  pub rooted_by : {size : ℕ} {fours fours' roots : List Float} → Radicands frames ds from size fours → RootsOf (size * 4) fours fours' → RootedWith ds from fours' size roots → Rooted frames ds from size roots
  rooted_by {size} {fours} {fours'} radicands taken rooted = record { long = rooted.long; each = λ k l. rooted.each k l ∙ ap numbers_of (one k l) }
    where
      four : (k : ℕ) → k < size → four_of fours' k ≡ roots_of_four (four_of fours k)
      four k l =
          cc (taken.each (4 * k) (omega arith), taken.each (4 * k + 1) (omega arith), taken.each (4 * k + 2) (omega arith), taken.each (4 * k + 3) (omega arith))

      one : (k : ℕ) → k < size → root_with (decomposition_at ds (from + k + 1)) (four_of fours' k) ≡ root_at frames ds (from + k)
      one k l = ap (λ (v : List Float). root_with (decomposition_at ds (from + k + 1)) v) (four k l ∙ ap roots_of_four (radicands.each k l))

-- one root more, and the root that is read back
pub rooted_more : (ds : List ℕ) (from : ℕ) (fours : List Float) {k : ℕ} {roots roots' : List Float} {root : Root} → k < BATCH → root ≡ root_with (decomposition_at ds (from + k + 1)) (four_of fours k) → roots' ≡ put_beside BATCH 10 roots k (numbers_of root)
    → RootedWith ds from fours k roots → RootedWith ds from fours (k + 1) roots'
rooted_more ds from fours l is put before = beside_more (λ k. numbers_of (root_with (decomposition_at ds (from + k + 1)) (four_of fours k))) l (ap numbers_of is) refl put before

module _ (frames : List Float) (ds : List ℕ) (from : ℕ) where
  pub rooted_is : {size : ℕ} {roots : List Float} → Rooted frames ds from size roots → (k : ℕ) → k < size → root_in roots k ≡ root_at frames ds (from + k)
  rooted_is rooted k l = ap root_by (rooted.each k l)
