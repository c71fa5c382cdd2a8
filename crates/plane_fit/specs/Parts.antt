-- The parts of a batch of frames, side by side in a list for each column: entry e of the batch's k-th frame is number e * BATCH + k. Definitions,
-- then their laws. Assumes nothing.
use Rattle.std.specs.Prelude.{◌≡◌, refl, List, [], ◌∷◌, ◌++◌, ℕ, zero, suc, ◌+◌, ◌*◌, ◌%◌, ◌<◌, length, set, Float}
use Rattle.std.proofs.Common.{sym, ap, ap₂, ◌∙◌, add-one, not-suc-le-zero, add-zero, add-suc, add_comm, arith, length-set, get_or-set_same, get_or-set_other}
use Rattle.std.specs.Float.{nan}
use Rattle.sums.specs.Sum.{tab, off, plus}
use Rattle.sums.specs.Laws.{tab-same, off-add, up_to}
use Rattle.lists.specs.Part.{◌!◌}
use Rattle.plane_fit.specs.Steps.{spread_upto, spread_part, spread_more}

-- how many frames a batch has at most
abbrev pub BATCH : ℕ
BATCH = 8

-- how many numbers one column of a batch's parts is
abbrev pub COLUMNS : ℕ
COLUMNS = 24

-- a column of the part of the batch's k-th frame, and the part of its three columns
abbrev pub column_of : List Float → ℕ → List Float
column_of cells k = tab 3 (λ e. cells ! off k (e * BATCH))

abbrev pub part_of : List Float → List Float → List Float → ℕ → List Float
part_of a b c k = column_of a k ++ (column_of b k ++ column_of c k)

-- the first n entries of a column put where those of the k-th frame are; the numbers of the other frames stay
pub record Put (n k : ℕ) (column cells cells' : List Float) : Type 0 where
  pub here : (e : ℕ) → e < n → cells' ! (e * BATCH + k) ≡ column ! e
  pub kept : (i : ℕ) → (i % BATCH ≡ k → ⊥) → cells' ! i ≡ cells ! i
  pub size : length cells' ≡ length cells

-- the parts of n frames from frame `from` on, each in its place
pub record Held (frames actions mean : List Float) (from n : ℕ) (a b c : List Float) : Type 0 where
  pub each : (k : ℕ) → k < n → part_of a b c k ≡ spread_part frames actions mean (from + k)
  pub size-a : length a ≡ COLUMNS
  pub size-b : length b ≡ COLUMNS
  pub size_c : length c ≡ COLUMNS

-- a scatter with the parts of the first n frames, one after the other
abbrev pub with_parts : List Float → List Float → List Float → List Float → ℕ → List Float
with_parts s a b c zero = s
with_parts s a b c (suc n) = plus 9 (with_parts s a b c n) (part_of a b c n)

-- ---- laws
-- a column that is put in entry by entry: before the first, and after one more
pub put-none : (k : ℕ) (column cells : List Float) → Put 0 k column cells cells
put-none k column cells = record { here = λ e h. absurd (not-suc-le-zero h); kept = λ i h. refl; size = refl }

pub put_more : (n k : ℕ) (column cells cells' : List Float) (v : Float) → k < BATCH → n * BATCH + k < length cells' → v ≡ column ! n → Put n k column cells cells' → Put (n + 1) k column cells (set cells' (n * BATCH + k) v)
put_more n k column cells cells' v l w e p =
    let at = n * BATCH + k in
    record {
      here = up_to n (get_or-set_same cells' at v nan w ∙ e) (λ d h. get_or-set_other cells' at (d * BATCH + k) v nan (λ (q : d * BATCH + k ≡ at). omega arith) ∙ p.here d h);
      kept = λ i h. get_or-set_other cells' at i v nan (λ (q : i ≡ at). h (omega arith)) ∙ p.kept i h;
      size = length-set cells' at v ∙ p.size;
    }

-- the frame's own column then, and another frame's
module _ {n : ℕ} {column cells cells' : List Float} (l : n < BATCH) (p : Put 3 n column cells cells') where
  put_here : column_of cells' n ≡ tab 3 (λ d. column ! d)
  put_here = tab-same 3 _ _ (λ d m. ap (λ i. cells' ! i) (off-add n (d * BATCH) ∙ add_comm n (d * BATCH)) ∙ p.here d m)

  put-kept : (k : ℕ) → k < n → column_of cells' k ≡ column_of cells k
  put-kept k m = tab-same 3 _ _ (λ d w. p.kept (off k (d * BATCH)) (λ (q : off k (d * BATCH) % BATCH ≡ n). omega (arith, off-add k (d * BATCH))))

-- a batch that is filled frame by frame: before the first, and after one more
pub held_none : (frames actions mean : List Float) (from : ℕ) (a b c : List Float) → length a ≡ COLUMNS → length b ≡ COLUMNS → length c ≡ COLUMNS → Held frames actions mean from 0 a b c
held_none frames actions mean from a b c p q r = record { each = λ k h. absurd (not-suc-le-zero h); size-a = p; size-b = q; size_c = r }

pub held_more : (frames actions mean : List Float) (from n : ℕ) (part a a' b b' c c' : List Float) → n < BATCH → part ≡ spread_part frames actions mean (from + n)
    → Put 3 n ((part ! 0) ∷ (part ! 1) ∷ (part ! 2) ∷ []) a a' → Put 3 n ((part ! 3) ∷ (part ! 4) ∷ (part ! 5) ∷ []) b b' → Put 3 n ((part ! 6) ∷ (part ! 7) ∷ (part ! 8) ∷ []) c c'
    → Held frames actions mean from n a b c → Held frames actions mean from (n + 1) a' b' c'
held_more frames actions mean from n part a a' b b' c c' l e p q r h =
    record {
      each = up_to n (ap₂ ◌++◌ (put_here l p) (ap₂ ◌++◌ (put_here l q) (put_here l r)) ∙ ap (λ (x : List Float). tab 9 (λ d. x ! d)) e)
          (λ k m. ap₂ ◌++◌ (put-kept l p k m) (ap₂ ◌++◌ (put-kept l q k m) (put-kept l r k m)) ∙ h.each k m);
      size-a = p.size ∙ h.size-a;
      size-b = q.size ∙ h.size-b;
      size_c = r.size ∙ h.size_c;
    }

-- a batch added to the scatter of the frames before it
pub batch_more : (frames actions mean s a b c : List Float) (from n : ℕ) → s ≡ spread_upto frames actions mean from → ((k : ℕ) → k < n → part_of a b c k ≡ spread_part frames actions mean (from + k)) → with_parts s a b c n ≡ spread_upto frames actions mean (from + n)
batch_more frames actions mean s a b c from zero e h = rw add-zero e
batch_more frames actions mean s a b c from (suc n) e h =
    spread_more frames actions mean (with_parts s a b c n) (part_of a b c n) (from + n) (batch_more frames actions mean s a b c from n e (λ k l. h k (omega arith))) (h n (omega arith))
    ∙ ap (spread_upto frames actions mean) (add-one (from + n) ∙ sym (add-suc from n))
