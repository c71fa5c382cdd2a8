-- One cell under terms: what a segment and a block make of its content, entry by entry. Assumes nothing.
use Prim.Native.Nat.{ℕ, zero, suc, ◌+◌, ◌-◌, ◌*◌, ◌≤◌, ◌<◌}
use Rattle.std.specs.Prelude.{◌≡◌, Bool, ◌&&◌, List, [], ◌∷◌, ◌++◌, leb, ltb, length, get_or, Float}
use Rattle.std.proofs.Math.Path.{refl}
use Rattle.std.proofs.Common.{sym, ap, subst, ◌∙◌, get_or-set_same, get_or-set_other, lt-length-set}
use Rattle.std.proofs.Math.Bool.{true, false, and_comm, and-eq-true_iff}
use Rattle.std.proofs.lemmas.Bool.{false≢true}
use native.Mathlib.Omega.{arith}
use Rattle.std.proofs.Math.Dec.{eqb}
use Rattle.std.specs.Float.{nan}
use borrow.Author.Tests.{eqb-true, eqb-false, leb-true, ltb-true, ltb-false, le-leb, lt-ltb}
use Rattle.sums.specs.Sum.{◌⊕◌}
use Rattle.terms.specs.Terms.{Term, cell_of, add_at, add_all, upto, cell_at, segment, column_at, block, add_if, at_cell, within}
use Rattle.terms.proofs.Laws.{column-before}

-- ---- the cells of a list to which terms are added
pub get_or-add_at : (h : List Float) (k i : ℕ) (v : Float) → k < length h → get_or (add_at h i v) k nan ≡ add_if (eqb k i) (get_or h k nan) v
get_or-add_at h k i v l = go (eqb k i) refl
  where
    go : (b : Bool) → eqb k i ≡ b → get_or (add_at h i v) k nan ≡ add_if b (get_or h k nan) v
    go true e = subst (λ (j : ℕ). get_or (add_at h j v) k nan ≡ get_or h k nan ⊕ v) (eqb-true k i e) (get_or-set_same h k _ nan l)
    go false e = get_or-set_other h i k _ nan (eqb-false k i e)

pub get_or-add_all : (ts : List Term) (h : List Float) (k : ℕ) → k < length h → get_or (add_all h ts) k nan ≡ at_cell k ts (get_or h k nan)
unfolding add_all at_cell
get_or-add_all [] h k l = refl
get_or-add_all (t ∷ ts) h k l =
    get_or-add_all ts (add_at h t.cell t.value) k (lt-length-set h t.cell _ l) ∙ ap (at_cell k ts) (get_or-add_at h k t.cell t.value l)

pub at_cell-append : (k : ℕ) (s t : List Term) (x : Float) → at_cell k (s ++ t) x ≡ at_cell k t (at_cell k s x)
unfolding at_cell
at_cell-append k [] t x = refl
at_cell-append k (y ∷ s) t x = at_cell-append k s t (add_if (eqb k y.cell) x y.value)

-- ---- whether a row is within a segment
pub within_in : (offset width i : ℕ) → within offset width i ≡ true → (offset ≤ i) × (i < offset + width)
within_in offset width i e =
    let p = (and-eq-true_iff (leb offset i) (ltb i (offset + width))).0 e in
    (leb-true offset i p.0, ltb-true i (offset + width) p.1)

pub in_within : (offset width i : ℕ) → offset ≤ i → i < offset + width → within offset width i ≡ true
in_within offset width i p q = rw (le-leb offset i p, lt-ltb i (offset + width) q)

-- two tests that hold together
same_test : (a b : Bool) → (a ≡ true → b ≡ true) → (b ≡ true → a ≡ true) → a ≡ b
same_test true b f g = sym (f refl)
same_test false true f g = g refl
same_test false false f g = refl

pub same-within : (offset width i offset' width' i' : ℕ) → ((offset ≤ i) × (i < offset + width) → (offset' ≤ i') × (i' < offset' + width'))
    → ((offset' ≤ i') × (i' < offset' + width') → (offset ≤ i) × (i < offset + width)) → within offset width i ≡ within offset' width' i'
same-within offset width i offset' width' i' f g =
    same_test _ _ (λ e. let p = f (within_in offset width i e) in in_within offset' width' i' p.0 p.1)
    (λ e. let p = g (within_in offset' width' i' e) in in_within offset width i p.0 p.1)

pub not_within : (offset width i : ℕ) → ((offset ≤ i) × (i < offset + width) → ⊥) → within offset width i ≡ false
not_within offset width i out = same_test _ _ (λ e. absurd (out (within_in offset width i e))) (λ e. absurd (false≢true e))

-- ---- a segment adds entry i - offset to cell i of it, once, and nothing elsewhere
segment_grown : (offset width i : ℕ) (e : ℕ → Float) (x : Float)
    → add_if (eqb i (offset + width)) (add_if (within offset width i) x (e (i - offset))) (e width) ≡ add_if (within offset (suc width) i) x (e (i - offset))
segment_grown offset width i e x = go (eqb i (offset + width)) refl
  where
    go : (b : Bool) → eqb i (offset + width) ≡ b → add_if b (add_if (within offset width i) x (e (i - offset))) (e width) ≡ add_if (within offset (suc width) i) x (e (i - offset))
    go true q =
        let z : i ≡ offset + width = eqb-true i (offset + width) q in
        let d : i - offset ≡ width = omega arith in
        rw (not_within offset width i (λ p. omega arith), in_within offset (suc width) i (omega arith) (omega arith), d)
    go false q =
        let z : i ≡ offset + width → ⊥ = eqb-false i (offset + width) q in
        rw (same-within offset width i offset (suc width) i (λ p. (p.0, omega arith)) (λ p. (p.0, omega arith)))

pub segment-cell : (offset width : ℕ) (e : ℕ → Float) (i : ℕ) (x : Float)
    → at_cell i (segment offset width e) x ≡ add_if (within offset width i) x (e (i - offset))
unfolding segment upto at_cell cell_at
segment-cell offset zero e i x = rw (not_within offset 0 i (λ p. omega arith))
segment-cell offset (suc width) e i x =
    at_cell-append i (segment offset width e) (cell_at offset e width) x
    ∙ ap (λ (y : Float). add_if (eqb i (offset + width)) y (e width)) (segment-cell offset width e i x) ∙ segment_grown offset width i e x

-- ---- a block adds entry (i - offset, j - offset) to cell (i, j) of it, once, and nothing elsewhere
module _ (n offset width : ℕ) (fit : offset + width ≤ n) (e : ℕ → ℕ → Float) (i j : ℕ) (row : i < n) where
  -- another column's cells are before it or after it
  apart : (c : ℕ) → (j ≡ c → ⊥) → (cell_of n offset c ≤ cell_of n i j) × (cell_of n i j < cell_of n offset c + width) → ⊥
  apart c other p = go (ltb j c) refl
    where
      go : (b : Bool) → ltb j c ≡ b → ⊥
      go true q = omega (arith, column-before n j c (ltb-true j c q))
      go false q = let l : c < j = omega (arith, ltb-false j c q) in omega (arith, column-before n c j l)

  -- column m adds its entry to cell (i, j) if that is its column and a row of the block
  column-cell : (m : ℕ) (x : Float) → at_cell (cell_of n i j) (column_at n offset width e m) x ≡ add_if (eqb j (offset + m) && within offset width i) x (e (i - offset) m)
  unfolding column_at
  column-cell m x = segment-cell (cell_of n offset (offset + m)) width (λ r. e r m) (cell_of n i j) x ∙ go (eqb j (offset + m)) refl
    where
      go : (b : Bool) → eqb j (offset + m) ≡ b → add_if (within (cell_of n offset (offset + m)) width (cell_of n i j)) x (e (cell_of n i j - cell_of n offset (offset + m)) m) ≡ add_if (b && within offset width i) x (e (i - offset) m)
      go true q =
          let z : j ≡ offset + m = eqb-true j (offset + m) q in
          let base = (offset + m) * n in
          let d : base + i - (base + offset) ≡ i - offset = omega arith in
          rw (z, d, same-within (base + offset) width (base + i) offset width i (λ p. (omega arith, omega arith)) (λ p. (omega arith, omega arith)))
      go false q = rw (not_within (cell_of n offset (offset + m)) width (cell_of n i j) (apart (offset + m) (eqb-false j (offset + m) q)))

  columns-cell : (m : ℕ) (x : Float) → at_cell (cell_of n i j) (upto m (column_at n offset width e)) x ≡ add_if (within offset m j && within offset width i) x (e (i - offset) (j - offset))
  unfolding upto at_cell
  columns-cell zero x = rw (not_within offset 0 j (λ p. omega arith))
  columns-cell (suc m) x =
      at_cell-append (cell_of n i j) (upto m (column_at n offset width e)) (column_at n offset width e m) x ∙ column-cell m _ ∙ rw (columns-cell m x) (go (eqb j (offset + m)) refl (within offset width i))
    where
      go : (b : Bool) → eqb j (offset + m) ≡ b → (a : Bool) → add_if (b && a) (add_if (within offset m j && a) x (e (i - offset) (j - offset))) (e (i - offset) m) ≡ add_if (within offset (suc m) j && a) x (e (i - offset) (j - offset))
      go true q a =
          let z : j ≡ offset + m = eqb-true j (offset + m) q in
          let d : j - offset ≡ m = omega arith in
          rw (not_within offset m j (λ p. omega arith), in_within offset (suc m) j (omega arith) (omega arith), d)
      go false q a =
          let z : j ≡ offset + m → ⊥ = eqb-false j (offset + m) q in
          rw (same-within offset m j offset (suc m) j (λ p. (p.0, omega arith)) (λ p. (p.0, omega arith)))

  pub block-cell : (x : Float) → at_cell (cell_of n i j) (block n offset width e) x ≡ add_if (within offset width i && within offset width j) x (e (i - offset) (j - offset))
  unfolding block
  block-cell x = columns-cell width x ∙ rw (and_comm (within offset width j) (within offset width i))
