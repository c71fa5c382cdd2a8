-- How a block fills up: one cell, two rectangles of cells side by side, and one above the other. Assumes nothing.
use Prim.Native.Nat.{ℕ, ◌+◌, ◌-◌, ◌*◌, ◌<◌, ◌≤◌}
use mathlib.Core.Path.{◌≡◌, refl, ◌∙◌}
use mathlib.Core.Bool.{Bool, true, false, ◌&&◌, ◌||◌, cond, and-false, or-false}
use mathlib.Core.List.{List}
use native.Mathlib.Nat.{zero-add}
use native.Mathlib.Omega.{arith}
use lib.Dec.{ltb, eqb}
use lib.ListN.{length, set, length-set}
use lib.Seq.{get_or-set_same, get_or-set_other}
use lib.Ieee.{Float, nan}
use borrow.Author.Tests.{ltb-true, ltb-false, eqb-true, eqb-false}
use Rattle.sums.specs.Laws.{cell}
use Rattle.lists.specs.Part.{◌!◌}
use Rattle.terms.specs.Terms.{cell_of, within}
use Rattle.terms.proofs.Cells.{in_within, not_within, same-within}
use Rattle.terms.proofs.Places.{same_row, same-column}
use Rattle.bundle_rows.specs.Steps.{Put}

-- ---- a run of rows or columns: none, one, and two runs one after the other
within_none : (from k : ℕ) → within from 0 k ≡ false
within_none from k = not_within from 0 k (λ p. omega (arith, p.0, p.1))

not-one : (from k : ℕ) → (k ≡ from → ⊥) → within from 1 k ≡ false
not-one from k n = not_within from 1 k (λ p. n (omega (arith, p.0, p.1)))

within_split : (from a b k : ℕ) → (within from a k || within (from + a) b k) ≡ within from (a + b) k
within_split from a b k = go (ltb k (from + a)) refl
  where
    go : (t : Bool) → ltb k (from + a) ≡ t → (within from a k || within (from + a) b k) ≡ within from (a + b) k
    go true e =
        let l : k < from + a = ltb-true k (from + a) e in
        rw (not_within (from + a) b k (λ p. omega (arith, p.0)), or-false) (same-within from a k from (a + b) k (λ p. (p.0, omega arith)) (λ p. (p.0, l)))
    go false e =
        let l : from + a ≤ k = ltb-false k (from + a) e in
        rw (not_within from a k (λ p. omega (arith, p.1))) (same-within (from + a) b k from (a + b) k (λ p. (omega arith, omega (arith, p.1))) (λ p. (l, omega (arith, p.1))))

-- ---- rectangles
module _ (rows cols : ℕ) (f : ℕ → ℕ → Float) where
  -- one cell
  pub put-cell : (k c : ℕ) (v : Float) (j : List Float) → length j ≡ cols * rows → k < rows → c < cols → v ≡ f k c → Put rows cols k 1 c 1 f j (set j (cell_of rows k c) v)
  put-cell k c v j size a b e = record { size = length-set j (cell_of rows k c) v; cells = λ i d h l. go i d h l (eqb i k) (eqb d c) refl refl }
    where
      inside : cell_of rows k c < length j
      inside = rw size (cell rows cols k c a b)

      elsewhere : (i d : ℕ) → (cell_of rows i d ≡ cell_of rows k c → ⊥) → set j (cell_of rows k c) v ! cell_of rows i d ≡ j ! cell_of rows i d
      elsewhere i d n = get_or-set_other j (cell_of rows k c) (cell_of rows i d) v nan n

      column : (i d : ℕ) → i < rows → (d ≡ c → ⊥) → set j (cell_of rows k c) v ! cell_of rows i d ≡ cond (within c 1 d && within k 1 i) (f i d) (j ! cell_of rows i d)
      column i d h n = rw (not-one c d n) (elsewhere i d (λ z. n (same-column rows i d k c h a z)))

      go : (i d : ℕ) → i < rows → d < cols → (s t : Bool) → eqb i k ≡ s → eqb d c ≡ t
          → set j (cell_of rows k c) v ! cell_of rows i d ≡ cond (within c 1 d && within k 1 i) (f i d) (j ! cell_of rows i d)
      go i d h l true true p q =
          let x : i ≡ k = eqb-true i k p in
          let y : d ≡ c = eqb-true d c q in
          rw (x, y, in_within c 1 c (omega arith) (omega arith), in_within k 1 k (omega arith) (omega arith)) (get_or-set_same j (cell_of rows k c) v nan inside ∙ e)
      go i d h l true false p q = column i d h (eqb-false d c q)
      go i d h l false false p q = column i d h (eqb-false d c q)
      go i d h l false true p q =
          let n : i ≡ k → ⊥ = eqb-false i k p in
          rw (not-one k i n, and-false) (elsewhere i d (λ z. n (same_row rows i d k c h a z)))

  -- rows after rows
  pub rows_none : (from first width : ℕ) (j : List Float) → Put rows cols from 0 first width f j j
  rows_none from first width j = record { size = refl; cells = λ k c h l. rw (within_none from k, and-false) }

  above : (p s t : Bool) (x y : Float) → cond (p && t) x (cond (p && s) x y) ≡ cond (p && (s || t)) x y
  above true true true x y = refl
  above true true false x y = refl
  above true false t x y = refl
  above false s t x y = refl

  pub rows_more : (from a b first width : ℕ) (j j' j'' : List Float) → Put rows cols from a first width f j j' → Put rows cols (from + a) b first width f j' j'' → Put rows cols from (a + b) first width f j j''
  rows_more from a b first width j j' j'' p q = record {
    size = q.size ∙ p.size;
    cells = λ k c h l. q.cells k c h l ∙ rw (p.cells k c h l, ← within_split from a b k) (above (within first width c) (within from a k) (within (from + a) b k) (f k c) (j ! cell_of rows k c));
  }

  -- columns after columns
  pub columns-none : (from count first : ℕ) (j : List Float) → Put rows cols from count first 0 f j j
  columns-none from count first j = record { size = refl; cells = λ k c h l. rw (within_none first c) }

  beside : (p s t : Bool) (x y : Float) → cond (t && p) x (cond (s && p) x y) ≡ cond ((s || t) && p) x y
  beside true true true x y = refl
  beside true true false x y = refl
  beside true false t x y = refl
  beside false true true x y = refl
  beside false true false x y = refl
  beside false false t x y = refl

  pub columns_more : (from count first a b : ℕ) (j j' j'' : List Float) → Put rows cols from count first a f j j' → Put rows cols from count (first + a) b f j' j'' → Put rows cols from count first (a + b) f j j''
  columns_more from count first a b j j' j'' p q = record {
    size = q.size ∙ p.size;
    cells = λ k c h l. q.cells k c h l ∙ rw (p.cells k c h l, ← within_split first a b c) (beside (within from count k) (within first a c) (within (first + a) b c) (f k c) (j ! cell_of rows k c));
  }

  -- from the first column on, up to column r
  pub columns-to : (from count c r : ℕ) (j j' j'' : List Float) → c ≤ r → Put rows cols from count 0 c f j j' → Put rows cols from count c (r - c) f j' j'' → Put rows cols from count 0 r f j j''
  columns-to from count c r j j' j'' h p q =
      let e : c + (r - c) ≡ r = omega arith in
      rw e at (columns_more from count 0 c (r - c) j j' j'' p (rw (zero-add c) q))
