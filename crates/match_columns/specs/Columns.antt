-- How a matrix that is stored by columns is filled, some columns at a time and row after row: definitions, then their laws. Assumes nothing.
use Rattle.std.specs.Prelude.{ℕ, ◌+◌, ◌-◌, ◌*◌, ◌<◌, ◌≤◌, ◌≡◌, refl, Bool, true, false, List, ltb, length, set, Float}
use Rattle.std.proofs.Common.{◌∙◌, not-suc-le-zero, arith, length-set, get_or-set_same, get_or-set_other, ltb-true, ltb-false}
use Rattle.std.specs.Float.{nan}
use Rattle.sums.specs.Sum.{grid}
use Rattle.sums.specs.Laws.{up_to}
use Rattle.lists.specs.Part.{◌!◌}
use Rattle.terms.specs.Terms.{cell_of}
use Rattle.terms.proofs.Places.{same_row, same-column, grid_of_cells}

-- a matrix of n rows whose first c columns are f's
pub record Done (n c : ℕ) (f : ℕ → ℕ → Float) (j : List Float) : Type 0 where
  pub cells : (i d : ℕ) → i < n → d < c → j ! cell_of n i d ≡ f i d

-- the cells of the columns from c to before c' are f's, those of every other column are as they were, and there are as many
pub record Grown (n c c' : ℕ) (f : ℕ → ℕ → Float) (j j' : List Float) : Type 0 where
  pub cells : (i d : ℕ) → i < n → c ≤ d → d < c' → j' ! cell_of n i d ≡ f i d
  pub kept : (i d : ℕ) → i < n → (c ≤ d → d < c' → ⊥) → j' ! cell_of n i d ≡ j ! cell_of n i d
  pub size : length j' ≡ length j

-- in row k the cells of w columns from column c on are g's, and every other cell is as it was
pub record Put (n k c w : ℕ) (g : ℕ → Float) (j j' : List Float) : Type 0 where
  pub cells : (d : ℕ) → d < w → j' ! cell_of n k (c + d) ≡ g (c + d)
  pub kept : (i d : ℕ) → i < n → (i ≡ k → c ≤ d → d < c + w → ⊥) → j' ! cell_of n i d ≡ j ! cell_of n i d
  pub size : length j' ≡ length j

-- of w columns from column c on, the first k rows and the first e cells of row k are f's; those of every other column are as they were
pub record Filled (n c w k e : ℕ) (f : ℕ → ℕ → Float) (j j' : List Float) : Type 0 where
  pub kept : (i d : ℕ) → i < n → (c ≤ d → d < c + w → ⊥) → j' ! cell_of n i d ≡ j ! cell_of n i d
  pub rows : (i d : ℕ) → i < k → d < w → j' ! cell_of n i (c + d) ≡ f i (c + d)
  pub row : (d : ℕ) → d < e → j' ! cell_of n k (c + d) ≡ f k (c + d)
  pub size : length j' ≡ length j

-- ---- laws
pub put-none : (n k c : ℕ) (g : ℕ → Float) (j : List Float) → Put n k c 0 g j j
put-none n k c g j = record { cells = λ d h. absurd (not-suc-le-zero h); kept = λ i d h out. refl; size = refl }

pub put_more : (n k c w : ℕ) (g : ℕ → Float) (j j' : List Float) (v : Float) → k < n → cell_of n k (c + w) < length j' → v ≡ g (c + w)
    → Put n k c w g j j' → Put n k c (w + 1) g j (set j' (cell_of n k (c + w)) v)
put_more n k c w g j j' v kn l is h = record {
  cells = up_to {P = λ d. set j' (cell_of n k (c + w)) v ! cell_of n k (c + d) ≡ g (c + d)} w (get_or-set_same j' (cell_of n k (c + w)) v nan l ∙ is)
      (λ d dl. get_or-set_other j' (cell_of n k (c + w)) (cell_of n k (c + d)) v nan
      (λ (z : cell_of n k (c + d) ≡ cell_of n k (c + w)). let s : c + d ≡ c + w = same-column n k (c + d) k (c + w) kn kn z in omega arith)
      ∙ h.cells d dl);
  kept = λ i d il out.
      get_or-set_other j' (cell_of n k (c + w)) (cell_of n i d) v nan
      (λ (z : cell_of n i d ≡ cell_of n k (c + w)).
      let s : d ≡ c + w = same-column n i d k (c + w) il kn z in
      out (same_row n i d k (c + w) il kn z) (omega arith) (omega arith))
      ∙ h.kept i d il (λ q a b. out q a (omega arith));
  size = length-set j' (cell_of n k (c + w)) v ∙ h.size;
}

pub filled_none : (n c w : ℕ) (f : ℕ → ℕ → Float) (j : List Float) → Filled n c w 0 0 f j j
filled_none n c w f j = record { kept = λ i d h l. refl; rows = λ i d h. absurd (not-suc-le-zero h); row = λ d h. absurd (not-suc-le-zero h); size = refl }

pub filled_put : (n c w k e from width : ℕ) (f : ℕ → ℕ → Float) (j j' j'' : List Float) → k < n → from ≡ c + e → e + width ≤ w → Put n k from width (f k) j' j''
    → Filled n c w k e f j j' → Filled n c w k (e + width) f j j''
filled_put n c w k e from width f j j' j'' kn z fit p h = record {
  kept = λ i d il out. p.kept i d il (λ q a b. out (omega arith) (omega arith)) ∙ h.kept i d il out;
  rows = λ i d il dl. p.kept i (c + d) (omega arith) (λ q a b. omega arith) ∙ h.rows i d il dl;
  row = λ d dl. go d dl (ltb d e) refl;
  size = p.size ∙ h.size;
}
  where
    go : (d : ℕ) → d < e + width → (b : Bool) → ltb d e ≡ b → j'' ! cell_of n k (c + d) ≡ f k (c + d)
    go d dl true q = let l : d < e = ltb-true d e q in p.kept k (c + d) kn (λ r a b. omega arith) ∙ h.row d l
    go d dl false q =
        let g : e ≤ d = ltb-false d e q in
        let s : from + (d - e) ≡ c + d = omega arith in
        rw s at (p.cells (d - e) (omega arith))

pub filled_row : (n c w k : ℕ) (f : ℕ → ℕ → Float) (j j' : List Float) → Filled n c w k w f j j' → Filled n c w (k + 1) 0 f j j'
filled_row n c w k f j j' h = record {
  kept = h.kept;
  rows = λ i d il dl. up_to {P = λ i. j' ! cell_of n i (c + d) ≡ f i (c + d)} k (h.row d dl) (λ i l. h.rows i d l dl) i il;
  row = λ d l. absurd (not-suc-le-zero l);
  size = h.size;
}

pub filled_all : (n c w k : ℕ) (f : ℕ → ℕ → Float) (j j' : List Float) → n ≤ k → Filled n c w k 0 f j j' → Grown n c (c + w) f j j'
filled_all n c w k f j j' nk h = record {
  cells = λ i d il cd dl. let s : c + (d - c) ≡ d = omega arith in rw s at (h.rows i (d - c) (omega arith) (omega arith));
  kept = h.kept;
  size = h.size;
}

pub grown_none : (n c : ℕ) (f : ℕ → ℕ → Float) (j : List Float) → Grown n c c f j j
grown_none n c f j = record { cells = λ i d il cd dl. absurd (omega arith); kept = λ i d il out. refl; size = refl }

pub done_none : (n : ℕ) (f : ℕ → ℕ → Float) (j : List Float) → Done n 0 f j
done_none n f j = record { cells = λ i d h l. absurd (not-suc-le-zero l) }

-- where the first c columns were f's, the first c' now are
pub done_more : (n c c' : ℕ) (f : ℕ → ℕ → Float) (j j' : List Float) → Grown n c c' f j j' → Done n c f j → Done n c' f j'
done_more n c c' f j j' g done = record { cells = λ i d il dl. go i d il dl (ltb d c) refl }
  where
    go : (i d : ℕ) → i < n → d < c' → (b : Bool) → ltb d c ≡ b → j' ! cell_of n i d ≡ f i d
    go i d il dl true q = let l : d < c = ltb-true d c q in g.kept i d il (λ a b. omega arith) ∙ done.cells i d il l
    go i d il dl false q = g.cells i d il (ltb-false d c q) dl

pub done_all : (n dof : ℕ) (f : ℕ → ℕ → Float) (j : List Float) → length j ≡ dof * n → Done n dof f j → j ≡ grid n dof f
done_all n dof f j size r = grid_of_cells n dof f j size r.cells
