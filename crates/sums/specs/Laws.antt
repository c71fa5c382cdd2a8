-- Laws of sums, tables and grids, over the length. Assumes nothing.
use Rattle.std.specs.Prelude.{ℕ, zero, suc, ◌+◌, ◌*◌, ◌<◌, ◌≡◌, refl, List, [], ◌∷◌, ◌++◌, length, get_or, take, set, Bool, true, false, Float}
use Rattle.std.proofs.Common.{add-one, eq-or-lt_of_le, le_of_suc-le-suc, not-suc-le-zero, zero-mul, zero-add, add-zero, add-suc, suc-mul, mul_comm, mul-le-mul_right, arith, sym, ap, ◌∙◌, ⊎_elim, append_assoc, append-nil, length-append, ext_get_or, get_or-append-add, take-suc, take-suc-set, take_all}
use Rattle.std.proofs.Math.ListN.{get_or-append}
use Rattle.std.proofs.Math.Seq.{take-length}
use Rattle.std.specs.Float.{nan, inf, fin}
use Rattle.std.specs.Float.Ieee.{mul, unlike, up, down}
use Rattle.sums.specs.Sum.{◌⊕◌, ◌⊗◌, sum_to, sum_from, tab, grid, off, at}

-- a number below c + 1 is c or below c
pub up_to : {P : ℕ → Type 0} (c : ℕ) → P c → ((k : ℕ) → k < c → P k) → (k : ℕ) → k < c + 1 → P k
up_to {P} c here before k h =
    ⊎_elim (λ (e : k ≡ c). rw e here) (λ (l : k < c). before k l) (eq-or-lt_of_le (le_of_suc-le-suc (rw add-one at h)))

-- the sign of a product
unlike_comm : (s t : Bool) → unlike s t ≡ unlike t s
unlike_comm true true = refl
unlike_comm true false = refl
unlike_comm false true = refl
unlike_comm false false = refl

-- one more term
pub sum_to_more : (n : ℕ) (f : ℕ → Float) → 0 < n → sum_to (n + 1) f ≡ sum_to n f ⊕ f n
sum_to_more zero f h = elim h [ ]
sum_to_more (suc n) f h = rw add-one

-- sums of equal terms
pub sum_to-same : (n : ℕ) (f g : ℕ → Float) → ((k : ℕ) → k < n → f k ≡ g k) → sum_to n f ≡ sum_to n g
sum_to-same zero f g h = refl
sum_to-same (suc zero) f g h = h 0 (omega arith)
sum_to-same (suc (suc n)) f g h = cc (sum_to-same (suc n) f g (λ k l. h k (omega arith)), h (suc n) (omega arith))

-- one more term, equal terms, and a sum in two parts, for sums that start from a number
pub sum_from_more : (a : Float) (n : ℕ) (f : ℕ → Float) → sum_from a (n + 1) f ≡ sum_from a n f ⊕ f n
sum_from_more a n f = rw add-one

pub sum_from-same : (a : Float) (n : ℕ) (f g : ℕ → Float) → ((k : ℕ) → k < n → f k ≡ g k) → sum_from a n f ≡ sum_from a n g
sum_from-same a zero f g h = refl
sum_from-same a (suc n) f g h = cc (sum_from-same a n f g (λ k l. h k (omega arith)), h n (omega arith))

pub sum_from_parts : (a : Float) (m n : ℕ) (f : ℕ → Float) → sum_from a (m + n) f ≡ sum_from (sum_from a m f) n (λ k. f (m + k))
sum_from_parts a m zero f = rw add-zero
sum_from_parts a m (suc n) f = rw add-suc (ap (λ s. s ⊕ f (m + n)) (sum_from_parts a m n f))

-- the two factors of one product may be swapped
pub ⊗_comm : (a b : Float) → a ⊗ b ≡ b ⊗ a
unfolding mul
⊗_comm nan nan = refl
⊗_comm nan (inf t) = refl
⊗_comm nan (fin t n d) = refl
⊗_comm (inf s) nan = refl
⊗_comm (inf s) (inf t) = rw (unlike_comm s t)
⊗_comm (inf s) (fin t n d) = rw (unlike_comm s t)
⊗_comm (fin s m e) nan = refl
⊗_comm (fin s m e) (inf t) = rw (unlike_comm s t)
⊗_comm (fin s m e) (fin t n d) = rw (unlike_comm s t, mul_comm (m * up e) (n * up d), mul_comm (down e) (down d))

pub length-tab : (n : ℕ) (f : ℕ → Float) → length (tab n f) ≡ n
length-tab zero f = refl
length-tab (suc n) f = ap suc (length-tab n (λ k. f (suc k)))

pub get_or-tab : (n : ℕ) (f : ℕ → Float) (k : ℕ) → k < n → get_or (tab n f) k nan ≡ f k
get_or-tab zero f k h = absurd (not-suc-le-zero h)
get_or-tab (suc n) f zero h = refl
get_or-tab (suc n) f (suc k) h = get_or-tab n (λ k. f (suc k)) k (le_of_suc-le-suc h)

pub tab_more : (n : ℕ) (f : ℕ → Float) → tab (suc n) f ≡ tab n f ++ (f n ∷ [])
tab_more zero f = refl
tab_more (suc n) f = ap (λ l. f 0 ∷ l) (tab_more n (λ k. f (suc k)))

pub tab-same : (n : ℕ) (f g : ℕ → Float) → ((k : ℕ) → k < n → f k ≡ g k) → tab n f ≡ tab n g
tab-same zero f g h = refl
tab-same (suc n) f g h = cc (h 0 (omega arith), tab-same n (λ k. f (suc k)) (λ k. g (suc k)) (λ k l. h (suc k) (omega arith)))

pub grid-same : (rows cols : ℕ) (f g : ℕ → ℕ → Float) → ((r c : ℕ) → r < rows → c < cols → f r c ≡ g r c) → grid rows cols f ≡ grid rows cols g
grid-same rows zero f g h = refl
grid-same rows (suc cols) f g h =
    rw (tab-same rows (λ r. f r 0) (λ r. g r 0) (λ r k. h r 0 k (omega arith)), grid-same rows cols (λ r c. f r (suc c)) (λ r c. g r (suc c)) (λ r c k l. h r (suc c) k (omega arith)))

pub off-add : (b k : ℕ) → off b k ≡ b + k
off-add b zero = sym (add-zero b)
off-add b (suc k) = refl

-- the entry at r and c
pub at-grid : (rows cols : ℕ) (f : ℕ → ℕ → Float) (r c : ℕ) → r < rows → c < cols → at rows (grid rows cols f) r c ≡ f r c
at-grid rows cols f r c h l = rw off-add (there rows cols f r c h l)
  where
    there : (rows cols : ℕ) (f : ℕ → ℕ → Float) (r c : ℕ) → r < rows → c < cols → get_or (grid rows cols f) (c * rows + r) nan ≡ f r c
    there rows zero f r c h l = absurd (not-suc-le-zero l)
    there rows (suc cols) f r zero h l =
        let t = tab rows (λ r. f r 0) in
        let n : r < length t = rw length-tab h in
        rw (zero-mul, zero-add) (get_or-append t _ nan r n ∙ get_or-tab rows (λ r. f r 0) r h)
    there rows (suc cols) f r (suc c) h l =
        let t = tab rows (λ r. f r 0) in
        let e : suc c * rows + r ≡ length t + (c * rows + r) = omega (arith, length-tab rows (λ r. f r 0)) in
        rw e (get_or-append-add t _ (c * rows + r) nan ∙ there rows cols (λ r c. f r (suc c)) r c h (le_of_suc-le-suc l))

-- one more column
pub grid-column : (rows cols : ℕ) (f : ℕ → ℕ → Float) → grid rows (suc cols) f ≡ grid rows cols f ++ tab rows (λ r. f r cols)
grid-column rows zero f = append-nil (tab rows (λ r. f r 0))
grid-column rows (suc cols) f =
    ap (λ l. tab rows (λ r. f r 0) ++ l) (grid-column rows cols (λ r c. f r (suc c))) ∙ sym (append_assoc (tab rows (λ r. f r 0)) _ _)

pub length-grid : (rows cols : ℕ) (f : ℕ → ℕ → Float) → length (grid rows cols f) ≡ cols * rows
length-grid rows zero f = sym (zero-mul rows)
length-grid rows (suc cols) f =
    simp (length-append, length-tab, length-grid rows cols (λ r c. f r (suc c)), suc-mul) (omega arith)

-- A list that is filled from the front: one more element of t, and all of them.
pub front_more : (t l : List Float) (k : ℕ) (v : Float) → length l ≡ length t → k < length t → v ≡ get_or t k nan → take k l ≡ take k t → take (k + 1) (set l k v) ≡ take (k + 1) t
front_more t l k v e h w p =
    let n : k < length l = omega arith in
    rw (add-one k, take-suc-set l k v n, take-suc t k nan h, w, p)

pub front_all : (t l : List Float) → length l ≡ length t → take (length t) l ≡ take (length t) t → l ≡ t
front_all t l e p = sym (take_all (length t) l (omega arith)) ∙ p ∙ take-length t

-- an entry's place is within the matrix
pub cell : (rows cols r c : ℕ) → r < rows → c < cols → c * rows + r < cols * rows
cell rows cols r c h l = omega (arith, mul-le-mul_right rows l)

-- A matrix that is filled by columns: one more entry, and all of them.
pub grid_more : (rows cols : ℕ) (f : ℕ → ℕ → Float) (l : List Float) (k r c : ℕ) (v : Float) → r < rows → c < cols → k ≡ c * rows + r → length l ≡ cols * rows → v ≡ f r c → take k l ≡ take k (grid rows cols f) → take (k + 1) (set l k v) ≡ take (k + 1) (grid rows cols f)
grid_more rows cols f l k r c v h j e n w p =
    let t = grid rows cols f in
    let m : length t ≡ cols * rows = length-grid rows cols f in
    front_more t l k v (n ∙ sym m) (omega (arith, cell rows cols r c h j)) (w ∙ sym (at-grid rows cols f r c h j) ∙ ap (λ i. get_or t i nan) (off-add (c * rows) r ∙ sym e)) p

pub grid_all : (rows cols : ℕ) (f : ℕ → ℕ → Float) (l : List Float) (k : ℕ) → k ≡ cols * rows → length l ≡ cols * rows → take k l ≡ take k (grid rows cols f) → l ≡ grid rows cols f
grid_all rows cols f l k e n p =
    let m : length (grid rows cols f) ≡ cols * rows = length-grid rows cols f in
    let q : k ≡ length (grid rows cols f) = e ∙ sym m in
    front_all (grid rows cols f) l (n ∙ sym m) (rw q at p)

-- a list is the table of its elements
pub tab-get_or : (n : ℕ) (l : List Float) → length l ≡ n → tab n (λ k. get_or l k nan) ≡ l
tab-get_or n l e =
    ext_get_or nan (tab n (λ k. get_or l k nan)) l (length-tab n _ ∙ sym e) (λ i h. get_or-tab n _ i (rw length-tab at h))
