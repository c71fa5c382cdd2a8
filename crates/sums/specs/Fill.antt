-- What a loop that fills leaves in an array: definitions, then their laws over the number of places filled. Assumes nothing.
use Rattle.std.specs.Prelude.{ℕ, suc, ◌+◌, ◌-◌, ◌*◌, ◌<◌, ◌≤◌, ◌≡◌, refl, List, [], ◌∷◌, ◌++◌, Bool, true, false, eqb, length, get_or, set, take, drop, replicate, Float}
use Rattle.std.proofs.Common.{sym, ap, ◌∙◌, append_assoc, append-nil, not-suc-le-zero, add-zero, zero-mul, suc-mul, le_of_eq, mul-le-mul_right, add-one, arith, length-set, length-append, length-drop, take-append-drop, drop_of_length-le, ext_get_or, get_or-set_same, get_or-set_other, get_or-append-add, get_or-take, get_or-drop, length-take-le, drop-cons, drop-drop, take_at, eqb-true}
use Rattle.std.proofs.Math.Nat.{sub-zero}
use Rattle.std.proofs.lemmas.List.{length-replicate, set_at}
use Rattle.std.proofs.Math.ListN.{get_or-append}
use Rattle.std.proofs.Math.Seq.{drop-append-add}
use Rattle.std.specs.Float.{nan}
use Rattle.std.proofs.lemmas.Bool.{eqb-false}
use Rattle.sums.specs.Sum.{zero_f, tab, grid}
use Rattle.sums.specs.Laws.{length-tab, get_or-tab, tab_more, tab-same, length-grid, grid-column}

-- the first n numbers of l are f 0, .., f (n - 1)
abbrev pub First : ℕ → List Float → (ℕ → Float) → Type 0
First n l f = (k : ℕ) → k < n → get_or l k nan ≡ f k

-- l with f 0, .., f (n - 1) from the place `from` on, the others as they were
unfoldable pub written : List Float → ℕ → ℕ → (ℕ → Float) → List Float
written l from n f = take from l ++ (tab n f ++ drop (from + n) l)

-- n numbers: f 0, .., f (width - 1), and +0 from there on
unfoldable pub padded : ℕ → ℕ → (ℕ → Float) → List Float
padded n width f = tab width f ++ replicate (n - width) zero_f

-- ---- First: a loop before its first turn, and after one more
pub first-none : (l : List Float) (f : ℕ → Float) → First 0 l f
first-none l f k h = absurd (not-suc-le-zero h)

pub first_more : (l : List Float) (f : ℕ → Float) (n : ℕ) (v : Float) → n < length l → v ≡ f n → First n l f → First (n + 1) (set l n v) f
first_more l f n v w e p k h = go (eqb k n) refl
  where
    go : (b : Bool) → eqb k n ≡ b → get_or (set l n v) k nan ≡ f k
    go true q = let z : k ≡ n = eqb-true k n q in rw z (get_or-set_same l n v nan w ∙ e)
    go false q = let z : k ≡ n → ⊥ = eqb-false k n q in get_or-set_other l n k v nan z ∙ p k (omega arith)

-- and at the end
pub first_all : (n : ℕ) (l : List Float) (f : ℕ → Float) → length l ≡ n → First n l f → l ≡ tab n f
first_all n l f e h = ext_get_or nan l (tab n f) (e ∙ sym (length-tab n f)) (λ k m. let w : k < n = omega arith in h k w ∙ sym (get_or-tab n f k w))

-- ---- written: a loop before its first turn, and after one more
pub written_none : (l : List Float) (from : ℕ) (f : ℕ → Float) → l ≡ written l from 0 f
unfolding written
written_none l from f = rw (add-zero, take-append-drop)

pub written_more : (l : List Float) (from n : ℕ) (f : ℕ → Float) → from + n < length l → set (written l from n f) (from + n) (f n) ≡ written l from (n + 1) f
unfolding written
written_more l from n f h =
    let front = take from l ++ tab n f in
    let next = drop (suc (from + n)) l in
    let size : length front ≡ from + n = simp (length-append, length-tab, length-take-le from l (omega arith)) in
    let one : tab (n + 1) f ≡ tab n f ++ (f n ∷ []) = rw add-one (tab_more n f) in
    let e : from + (n + 1) ≡ suc (from + n) = omega arith in
    let left : set (take from l ++ (tab n f ++ drop (from + n) l)) (from + n) (f n) ≡ front ++ f n ∷ next = rw (← append_assoc (take from l) (tab n f) (drop (from + n) l), drop-cons l (from + n) nan h) (set_at front _ next (f n) (from + n) size) in
    left ∙ simp (one, e, append_assoc)

pub length-written : (l : List Float) (from n : ℕ) (f : ℕ → Float) → from + n ≤ length l → length (written l from n f) ≡ length l
unfolding written
length-written l from n f h = simp (length-append, length-tab, length-drop, length-take-le from l (omega arith)) (omega arith)

-- A loop that writes over l from a place on: what holds after i turns of n, before the first turn, after one more, and at the end.
pub record Writing (l : List Float) (from n : ℕ) (f : ℕ → Float) (out : List Float) (i : ℕ) : Type 0 where
  pub within : i ≤ n
  pub size : length out ≡ length l
  pub filled : out ≡ written l from i f

pub writing_none : (l : List Float) (from n : ℕ) (f : ℕ → Float) → Writing l from n f l 0
writing_none l from n f = record { within = omega arith; size = refl; filled = written_none l from f }

pub writing_more : (l : List Float) (from n : ℕ) (f : ℕ → Float) (out : List Float) (i : ℕ) (v : Float) → from + n ≤ length l → i < n → v ≡ f i → Writing l from n f out i → Writing l from n f (set out (from + i) v) (i + 1)
writing_more l from n f out i v fit h e p =
    record { within = omega arith; size = length-set out (from + i) v ∙ p.size; filled = rw (e, p.filled) (written_more l from i f (omega arith)) }

pub writing_all : (l : List Float) (from n : ℕ) (f : ℕ → Float) (out : List Float) (i : ℕ) → n ≤ i → Writing l from n f out i → out ≡ written l from n f
writing_all l from n f out i h p = let e : i ≡ n = omega arith in rw e at p.filled

-- equal numbers
pub written_same : (l : List Float) (from n : ℕ) (f g : ℕ → Float) → ((k : ℕ) → k < n → f k ≡ g k) → written l from n f ≡ written l from n g
unfolding written
written_same l from n f g h = rw (tab-same n f g h)

-- what a caller reads: the places before, the places written, and those after
pub written-before : (l : List Float) (from n : ℕ) (f : ℕ → Float) (k : ℕ) → from ≤ length l → k < from → get_or (written l from n f) k nan ≡ get_or l k nan
unfolding written
written-before l from n f k h j =
    let m : k < length (take from l) = rw (length-take-le from l h) j in
    get_or-append (take from l) _ nan k m ∙ get_or-take from l k nan j

pub written_inside : (l : List Float) (from n : ℕ) (f : ℕ → Float) (k : ℕ) → from ≤ length l → k < n → get_or (written l from n f) (from + k) nan ≡ f k
unfolding written
written_inside l from n f k h j =
    let m : k < length (tab n f) = rw length-tab j in
    let e : length (take from l) ≡ from = length-take-le from l h in
    rw e at (get_or-append-add (take from l) (tab n f ++ drop (from + n) l) k nan) ∙ get_or-append (tab n f) _ nan k m ∙ get_or-tab n f k j

pub written_after : (l : List Float) (from n : ℕ) (f : ℕ → Float) (k : ℕ) → from ≤ length l → get_or (written l from n f) (from + n + k) nan ≡ get_or l (from + n + k) nan
unfolding written
written_after l from n f k h =
    let front = take from l ++ tab n f in
    let e : length front ≡ from + n = simp (length-append, length-tab, length-take-le from l h) in
    rw (← append_assoc (take from l) (tab n f) (drop (from + n) l)) (rw e at (get_or-append-add front (drop (from + n) l) k nan) ∙ get_or-drop (from + n) l k nan)

-- A loop that fills a matrix column by column, over l: what holds after c columns, before the first, after one more, and at the end.
pub record Columns (rows cols : ℕ) (f : ℕ → ℕ → Float) (l out : List Float) (c : ℕ) : Type 0 where
  pub within : c ≤ cols
  pub size : length out ≡ length l
  pub filled : out ≡ grid rows c f ++ drop (c * rows) l

pub columns-none : (rows cols : ℕ) (f : ℕ → ℕ → Float) (l : List Float) → Columns rows cols f l l 0
columns-none rows cols f l = record { within = omega arith; size = refl; filled = rw zero-mul }

-- column c ends within the matrix
pub column_ends : (rows cols c : ℕ) → c < cols → c * rows + rows ≤ cols * rows
column_ends rows cols c h = omega (arith, mul-le-mul_right rows h)

pub columns_more : (rows cols : ℕ) (f : ℕ → ℕ → Float) (l out out' : List Float) (c : ℕ) → length l ≡ cols * rows → c < cols → Columns rows cols f l out c → out' ≡ written out (c * rows) rows (λ r. f r c) → Columns rows cols f l out' (c + 1)
unfolding written
columns_more rows cols f l out out' c n h p q =
    let fits : c * rows + rows ≤ length out = omega (arith, column_ends rows cols c h, p.size) in
    record {
      within = omega arith;
      size = ap length q ∙ length-written out (c * rows) rows _ fits ∙ p.size;
      filled = one;
    }
  where
    one : out' ≡ grid rows (c + 1) f ++ drop ((c + 1) * rows) l
    one =
        let size : length (grid rows c f) ≡ c * rows = length-grid rows c f in
        let front : take (c * rows) out ≡ grid rows c f = rw p.filled (take_at (grid rows c f) _ (c * rows) size) in
        let rest : drop (c * rows + rows) out ≡ drop (c * rows + rows) l = rw p.filled (rw size at (drop-append-add (grid rows c f) (drop (c * rows) l) rows) ∙ drop-drop rows (c * rows) l) in
        q ∙ rw (front, rest, add-one c, suc-mul, grid-column rows c f, append_assoc)

pub columns_all : (rows cols : ℕ) (f : ℕ → ℕ → Float) (l out : List Float) (c : ℕ) → length l ≡ cols * rows → cols ≤ c → Columns rows cols f l out c → out ≡ grid rows cols f
columns_all rows cols f l out c n h p =
    let e : c ≡ cols = omega arith in
    rw e at p.filled ∙ rw (drop_of_length-le l (le_of_eq n), append-nil)

-- ---- padded: a loop before its first turn, and after one more
pub padded-none : (n : ℕ) (f : ℕ → Float) → replicate n zero_f ≡ padded n 0 f
unfolding padded
padded-none n f = rw sub-zero

pub padded_more : (n k : ℕ) (f : ℕ → Float) → k < n → set (padded n k f) k (f k) ≡ padded n (k + 1) f
unfolding padded
padded_more n k f h =
    let e : n - k ≡ suc (n - (k + 1)) = omega arith in
    let rest = replicate (n - (k + 1)) zero_f in
    let one : tab (k + 1) f ≡ tab k f ++ (f k ∷ []) = rw add-one (tab_more k f) in
    rw (e, set_at (tab k f) zero_f rest (f k) k (length-tab k f), one, append_assoc)

-- what a caller reads: the first numbers
pub padded-first : (n width : ℕ) (f : ℕ → Float) → First width (padded n width f) f
unfolding padded
padded-first n width f k h =
    let l : k < length (tab width f) = rw length-tab h in
    get_or-append (tab width f) _ nan k l ∙ get_or-tab width f k h

pub first_of : (n width : ℕ) (f : ℕ → Float) (l : List Float) → l ≡ padded n width f → First width l f
first_of n width f l e k h = rw e (padded-first n width f k h)

-- A loop that fills n zeros from the front: what holds after i turns of `width`, before the first turn, after one more, and at the end.
pub record Filling (n width : ℕ) (f : ℕ → Float) (row : List Float) (i : ℕ) : Type 0 where
  pub within : i ≤ width
  pub size : length row ≡ n
  pub filled : row ≡ padded n i f

pub filling_none : (n width : ℕ) (f : ℕ → Float) → Filling n width f (replicate n zero_f) 0
filling_none n width f = record { within = omega arith; size = length-replicate n zero_f; filled = padded-none n f }

pub filling_more : (n width : ℕ) (f : ℕ → Float) (row : List Float) (i : ℕ) (v : Float) → width ≤ n → i < width → v ≡ f i → Filling n width f row i → Filling n width f (set row i v) (i + 1)
filling_more n width f row i v fit h e p =
    record { within = omega arith; size = length-set row i v ∙ p.size; filled = rw (e, p.filled) (padded_more n i f (omega arith)) }

pub filling_all : (n width : ℕ) (f : ℕ → Float) (row : List Float) (i : ℕ) → width ≤ i → Filling n width f row i → row ≡ padded n width f
filling_all n width f row i h p = let e : i ≡ width = omega arith in rw e at p.filled

-- equal numbers
pub padded-same : (n width : ℕ) (f g : ℕ → Float) → ((k : ℕ) → k < width → f k ≡ g k) → padded n width f ≡ padded n width g
unfolding padded
padded-same n width f g h = rw (tab-same width f g h)
