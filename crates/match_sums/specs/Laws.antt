-- Laws of numbers that are raised one after the other, and of sums by groups. Assumes nothing.
use Rattle.std.specs.Prelude.{ℕ, ◌+◌, ◌*◌, ◌-◌, ◌<◌, ◌≤◌, Bool, true, false, cond, ◌≡◌, refl, List, leb, length, set, Float}
use Rattle.std.proofs.Common.{not-suc-le-zero, zero-add, add_assoc, arith, sym, ap, ◌∙◌, length-set, get_or-set_same, get_or-set_other, leb-true, leb-false}
use Rattle.std.specs.Float.{nan}
use Rattle.sums.specs.Sum.{◌⊕◌, ◌⊗◌, zero_f, sum_from}
use Rattle.sums.specs.Laws.{sum_from_more, sum_from-same, sum_from_parts, up_to}
use Rattle.lists.specs.Part.{◌!◌}
use Rattle.match_sums.specs.Groups.{GROUP, group_size, group_sum}
use Rattle.match_sums.specs.Cells.{Raised, Upper, Added, Summed, cell, squares, slants}

-- ---- raised: before the first turn, and after one more
pub raised_none : (from : ℕ) (f : ℕ → Float) (h : List Float) → Raised from 0 f h h
raised_none from f h =
    record { done = λ k l. absurd (not-suc-le-zero l); below = λ p l. refl; above = λ p l. refl; size = refl }

pub raised_more : (from n : ℕ) (f : ℕ → Float) (h h' : List Float) (v : Float) → from + n < length h' → v ≡ h' ! (from + n) ⊕ f n → Raised from n f h h' → Raised from (n + 1) f h (set h' (from + n) v)
raised_more from n f h h' v l e r =
    record {
      done = up_to n
          (get_or-set_same h' (from + n) v nan l ∙ e ∙ ap (λ x. x ⊕ f n) (r.above (from + n) (omega arith)))
          (λ k m. get_or-set_other h' (from + n) (from + k) v nan (λ (q : from + k ≡ from + n). omega arith) ∙ r.done k m);
      below = λ p m. get_or-set_other h' (from + n) p v nan (λ (q : p ≡ from + n). omega arith) ∙ r.below p m;
      above = λ p m. get_or-set_other h' (from + n) p v nan (λ (q : p ≡ from + n). omega arith) ∙ r.above p (omega arith);
      size = length-set h' (from + n) v ∙ r.size;
    }

-- from place 0 on
pub raised_at : (n : ℕ) (f : ℕ → Float) (g g' : List Float) (v : Float) → n < length g' → v ≡ g' ! n ⊕ f n → Raised 0 n f g g' → Raised 0 (n + 1) f g (set g' n v)
raised_at n f g g' v l e r = rw (zero-add n) at (raised_more 0 n f g g' v (rw (zero-add n) l) (rw (zero-add n) e) r)

-- ---- the upper half: before its first column, and after one more
pub upper_none : (row : ℕ → Float) (h : List Float) → Upper 0 row h h
upper_none row h = record { cells = λ i j l m. absurd (not-suc-le-zero m); rest = λ p l. refl; size = refl }

pub upper_more : (c : ℕ) (row : ℕ → Float) (h h1 h2 : List Float) → c < 9 → Upper c row h h1 → Raised (c * 9) (c + 1) (λ i. row i ⊗ row c) h1 h2 → Upper (c + 1) row h h2
upper_more c row h h1 h2 n u r =
    record {
      cells = λ i j l m. up_to {P = λ j. i ≤ j → cell h2 i j ≡ cell h i j ⊕ row i ⊗ row j} c
          (λ l. r.done i (omega arith) ∙ ap (λ x. x ⊕ row i ⊗ row c) (u.rest (c * 9 + i) (omega arith)))
          (λ j m l. r.below (j * 9 + i) (omega arith) ∙ u.cells i j l m) j m l;
      rest = λ p l. r.above p (omega arith) ∙ u.rest p (omega arith);
      size = r.size ∙ u.size;
    }

-- ---- one match added
pub added_all : (row : ℕ → Float) (r : Float) (width : ℕ) (h g h' g' : List Float) → Upper width row h h' → Raised 0 width (slants row r) g g' → Added width (squares row) (slants row r) h g h' g'
added_all row r width h g h' g' u s =
    record { cells = u.cells; numbers = λ i l. rw (zero-add i) at (s.done i l); size = u.size; long = s.size }

-- the same of a row with equal numbers, and of an equal width
pub added_same : (row row' : ℕ → Float) (r r' : Float) (width : ℕ) (h g h' g' : List Float) → ((c : ℕ) → c < width → row c ≡ row' c) → r ≡ r' → Added width (squares row) (slants row r) h g h' g' → Added width (squares row') (slants row' r') h g h' g'
added_same row row' r r' width h g h' g' e q a =
    record {
      cells = λ i j l m. a.cells i j l m ∙ cc (e i (omega arith), e j m);
      numbers = λ i l. a.numbers i l ∙ cc (e i l);
      size = a.size;
      long = a.long;
    }

pub added_width : (width width' : ℕ) (f : ℕ → ℕ → Float) (e : ℕ → Float) (h g h' g' : List Float) → width' ≡ width → Added width f e h g h' g' → Added width' f e h g h' g'
added_width width width' f e h g h' g' q a = rw q a

-- ---- terms added one after the other: none, and one more
pub summed_none : (width : ℕ) (f : ℕ → ℕ → ℕ → Float) (e : ℕ → ℕ → Float) (h g : List Float) → Summed width 0 f e h g h g
summed_none width f e h g = record { cells = λ i j l m. refl; numbers = λ i l. refl; size = refl; long = refl }

pub summed_more : (width n : ℕ) (f : ℕ → ℕ → ℕ → Float) (e : ℕ → ℕ → Float) (h g h1 g1 h2 g2 : List Float) → Summed width n f e h g h1 g1 → Added width (λ i j. f i j n) (λ i. e i n) h1 g1 h2 g2 → Summed width (n + 1) f e h g h2 g2
summed_more width n f e h g h1 g1 h2 g2 s a =
    record {
      cells = λ i j l m. a.cells i j l m ∙ ap (λ x. x ⊕ f i j n) (s.cells i j l m) ∙ sym (sum_from_more _ n _);
      numbers = λ i l. a.numbers i l ∙ ap (λ x. x ⊕ e i n) (s.numbers i l) ∙ sym (sum_from_more _ n _);
      size = a.size ∙ s.size;
      long = a.long ∙ s.long;
    }

-- equal terms
pub summed_same : (width n : ℕ) (f f' : ℕ → ℕ → ℕ → Float) (e e' : ℕ → ℕ → Float) (h g h' g' : List Float) → ((i j k : ℕ) → i ≤ j → j < width → k < n → f i j k ≡ f' i j k) → ((i k : ℕ) → i < width → k < n → e i k ≡ e' i k) → Summed width n f e h g h' g' → Summed width n f' e' h g h' g'
summed_same width n f f' e e' h g h' g' p q s =
    record {
      cells = λ i j l m. s.cells i j l m ∙ sum_from-same _ n _ _ (λ k t. p i j k l m t);
      numbers = λ i l. s.numbers i l ∙ sum_from-same _ n _ _ (λ k t. q i k l t);
      size = s.size;
      long = s.long;
    }

-- the terms from `from` on in two parts: of one sum, and of all
pub sum_parts : (a : Float) (from m n : ℕ) (f : ℕ → Float) → sum_from (sum_from a m (λ k. f (from + k))) n (λ k. f (from + m + k)) ≡ sum_from a (m + n) (λ k. f (from + k))
sum_parts a from m n f =
    sum_from-same _ n _ _ (λ k l. ap f (add_assoc from m k)) ∙ sym (sum_from_parts a m n (λ k. f (from + k)))

pub summed_parts : (width from m n : ℕ) (f : ℕ → ℕ → ℕ → Float) (e : ℕ → ℕ → Float) (h g h1 g1 h2 g2 : List Float) → Summed width m (λ i j k. f i j (from + k)) (λ i k. e i (from + k)) h g h1 g1 → Summed width n (λ i j k. f i j (from + m + k)) (λ i k. e i (from + m + k)) h1 g1 h2 g2 → Summed width (m + n) (λ i j k. f i j (from + k)) (λ i k. e i (from + k)) h g h2 g2
summed_parts width from m n f e h g h1 g1 h2 g2 s t =
    record {
      cells = λ i j l w. t.cells i j l w ∙ ap (λ x. sum_from x n (λ k. f i j (from + m + k))) (s.cells i j l w) ∙ sum_parts _ from m n (f i j);
      numbers = λ i l. t.numbers i l ∙ ap (λ x. sum_from x n (λ k. e i (from + m + k))) (s.numbers i l) ∙ sum_parts _ from m n (e i);
      size = t.size ∙ s.size;
      long = t.long ∙ s.long;
    }

-- ---- groups
-- a group is within the matches
pub group_size_fits : (n q : ℕ) → q * GROUP < n → q * GROUP + group_size n q ≤ n
unfolding group_size
group_size_fits n q h = go (leb (q * 512 + 512) n) refl
  where
    go : (b : Bool) → leb (q * 512 + 512) n ≡ b → q * 512 + cond b 512 (n - q * 512) ≤ n
    go true e = omega (arith, leb-true (q * 512 + 512) n e)
    go false e = omega (arith, leb-false (q * 512 + 512) n e)

-- the sums of group q, made from +0, added to cells
pub group_added : (width n q size : ℕ) (f : ℕ → ℕ → ℕ → Float) (e : ℕ → ℕ → Float) (h g h' g' z y z' y' : List Float) → width ≤ 9 → size ≡ group_size n q → length z ≡ 81 → length y ≡ 9 → ((p : ℕ) → p < 81 → z ! p ≡ zero_f) → ((p : ℕ) → p < 9 → y ! p ≡ zero_f) → Summed width size (λ i j k. f i j (q * GROUP + k)) (λ i k. e i (q * GROUP + k)) z y z' y' → Raised 0 (length z') (λ k. z' ! k) h h' → Raised 0 (length y') (λ k. y' ! k) g g' → Added width (λ i j. group_sum n (f i j) q) (λ i. group_sum n (e i) q) h g h' g'
unfolding group_sum
group_added width n q size f e h g h' g' z y z' y' w t lz ly zs ys s rh rg =
    record {
      cells = λ i j l m.
          let at : j * 9 + i < 81 = omega arith in
          let in' : j * 9 + i < length z' = omega (arith, s.size) in
          rw (zero-add (j * 9 + i)) at (rh.done (j * 9 + i) in')
          ∙ ap (λ x. cell h i j ⊕ x) (s.cells i j l m ∙ ap (λ x. sum_from x size (λ k. f i j (q * GROUP + k))) (zs (j * 9 + i) at) ∙ ap (λ x. sum_from zero_f x (λ k. f i j (q * GROUP + k))) t);
      numbers = λ i l.
          let at : i < 9 = omega arith in
          let in' : i < length y' = omega (arith, s.long) in
          rw (zero-add i) at (rg.done i in')
          ∙ ap (λ x. g ! i ⊕ x) (s.numbers i l ∙ ap (λ x. sum_from x size (λ k. e i (q * GROUP + k))) (ys i at) ∙ ap (λ x. sum_from zero_f x (λ k. e i (q * GROUP + k))) t);
      size = rh.size;
      long = rg.size;
    }
