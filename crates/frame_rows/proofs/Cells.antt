-- Where the blocks of the Jacobian lie, and how it fills up with them, batch after batch, each over +0. Assumes nothing.
use Prim.Native.Nat.{ℕ, zero, suc, ◌+◌, ◌-◌, ◌*◌, ◌/◌, ◌%◌, ◌<◌, ◌≤◌}
use Rattle.std.proofs.Common.{add-mul, mul-add, mul_assoc, mul-zero, mod-lt, div-add-mod', div-lt_iff_lt-mul, mul-le-mul_right, suc-mul, not-suc-le-zero, ap₂, ◌∙◌, ext_get_or}
use native.Mathlib.Omega.{arith}
use Rattle.std.specs.Prelude.{◌≡◌, List, Bool, length, Float}
use Rattle.std.proofs.Math.Path.{refl, sym, ap}
use Rattle.std.proofs.Math.Bool.{true, false, cond}
use Rattle.std.proofs.Math.Dec.{eqb, ltb}
use Rattle.std.specs.Float.{nan}
use borrow.Author.Tests.{eq-eqb, ne_eqb, eqb-true, eqb-false, ltb-true, ltb-false}
use Rattle.sums.specs.Sum.{zero_f, grid}
use Rattle.sums.specs.Laws.{length-grid, at-grid, off-add, cell}
use Rattle.sums.specs.Fill.{written, length-written, written-before, written_inside, written_after, column_ends}
use Rattle.lists.specs.Part.{◌!◌}
use Rattle.batches.specs.Beside.{number_at, thing_at}
use Rattle.frame_rows.specs.Rows.{block_cell, jacobian_cell}
use Rattle.frame_rows.specs.Steps.{put_columns, put_blocks, cleared}

-- column f·dof + c is column c of frame f: the cell of a block, and one beside it
module _ (dof f c : ℕ) (inside : c < dof) (frames actions : List Float) (ds : List ℕ) (n : List Float) (info : Float) where
  pub block_is : (k : ℕ) → k < 4 → jacobian_cell frames actions ds n info dof (f * 4 + k) (f * dof + c) ≡ block_cell frames actions ds n info f c k
  unfolding jacobian_cell
  block_is k h =
      let d : (f * 4 + k) / 4 ≡ f = omega arith in
      let m : (f * 4 + k) % 4 ≡ k = omega arith in
      let own : eqb ((f * 4 + k) / 4) ((f * dof + c) / dof) ≡ true = eq-eqb ((f * 4 + k) / 4) ((f * dof + c) / dof) (d ∙ sym (number_at dof f c inside)) in
      ap (λ b. cond b (block_cell frames actions ds n info ((f * dof + c) / dof) ((f * dof + c) % dof) ((f * 4 + k) % 4)) zero_f) own
      ∙ rw (number_at dof f c inside, thing_at dof f c inside, m)

  pub beside_is : (row : ℕ) → (row / 4 ≡ f → ⊥) → jacobian_cell frames actions ds n info dof row (f * dof + c) ≡ zero_f
  unfolding jacobian_cell
  beside_is row h = rw (number_at dof f c inside, ne_eqb (row / 4) f h)

-- column c of the k-th block of a batch lies where that of its frame does
pub block-place : (from k dof c rows : ℕ) → (from * dof + c) * rows + from * 4 + k * (dof * rows + 4) ≡ ((from + k) * dof + c) * rows + (from + k) * 4
block-place from k dof c rows =
    let a = add-mul (from * dof) c rows in
    let b : ((from + k) * dof + c) * rows ≡ from * dof * rows + k * dof * rows + c * rows = rw (add-mul from k dof, add-mul (from * dof + k * dof) c rows, add-mul (from * dof) (k * dof) rows) in
    let d : k * (dof * rows + 4) ≡ k * dof * rows + k * 4 = rw (mul-add k (dof * rows) 4, mul_assoc k dof rows) in
    omega (arith, a, b, d)

-- ---- the loop over the batches

module _ (frames actions : List Float) (ds : List ℕ) (n : List Float) (info : Float) (count dof : ℕ) where
  -- The Jacobian on the way: of the frames before `upto`, a cell that no block's column has left to fill is what it shall be, those beside the blocks too.
  pub record Partly (upto : ℕ) (left : ℕ → ℕ → Type 0) (out : List Float) : Type 0 where
    pub size : length out ≡ count * dof * ((count + 1) * 4)
    pub cells : (g d row : ℕ) → g < upto → d < dof → row < (count + 1) * 4 → (row / 4 ≡ g → left g d → ⊥) → out ! ((g * dof + d) * ((count + 1) * 4) + row) ≡ jacobian_cell frames actions ds n info dof row (g * dof + d)

  below : (f c : ℕ) → f < count → c < dof → f * dof + c < count * dof
  below f c h j = omega (arith, mul-le-mul_right dof h, suc-mul f dof)

  -- no fewer columns left
  pub partly_weaken : {upto : ℕ} {left left' : ℕ → ℕ → Type 0} {out : List Float} → ((g d : ℕ) → d < dof → left g d → left' g d) → Partly upto left out → Partly upto left' out
  partly_weaken more p = record { size = p.size; cells = λ g d row a b c free. p.cells g d row a b c (λ e l. free e (more g d b l)) }

  -- one more column of frame f's block
  module _ (upto : ℕ) (left left' : ℕ → ℕ → Type 0) (out : List Float) (f c : ℕ) (h : f < count) (u : f < upto) (j : c < dof) (more : (g d : ℕ) → left g d → ((g ≡ f) × (d ≡ c) → ⊥) → left' g d) (p : Partly upto left out) where
    abbrev rows : ℕ
    rows = (count + 1) * 4

    abbrev at : ℕ
    at = (f * dof + c) * ((count + 1) * 4) + f * 4

    abbrev out' : List Float
    out' = written out ((f * dof + c) * ((count + 1) * 4) + f * 4) 4 (block_cell frames actions ds n info f c)

    fits : at + 4 ≤ length out
    fits = omega (arith, p.size, h, column_ends rows (count * dof) (f * dof + c) (below f c h j))

    -- the cells before and after the four
    before_is : (i : ℕ) → i < at → out' ! i ≡ out ! i
    before_is i l = written-before out at 4 _ i (omega (arith, fits)) l

    after_is : (i : ℕ) → at + 4 ≤ i → out' ! i ≡ out ! i
    after_is i l =
        let e : i ≡ at + 4 + (i - (at + 4)) = omega arith in
        ap (λ q. out' ! q) e ∙ written_after out at 4 _ (i - (at + 4)) (omega (arith, fits)) ∙ ap (λ q. out ! q) (sym e)

    -- a cell of another column
    other : (col row : ℕ) → row < rows → (col ≡ f * dof + c → ⊥) → out' ! (col * rows + row) ≡ out ! (col * rows + row)
    other col row r ne = side (ltb col (f * dof + c)) refl
      where
        side : (t : Bool) → ltb col (f * dof + c) ≡ t → out' ! (col * rows + row) ≡ out ! (col * rows + row)
        side true e = before_is (col * rows + row) (omega (arith, cell rows (f * dof + c) row col r (ltb-true col (f * dof + c) e)))
        side false e =
            let x : f * dof + c ≤ col = ltb-false col (f * dof + c) e in
            let l : f * dof + c < col = omega arith in
            after_is (col * rows + row) (omega (arith, h, column_ends rows col (f * dof + c) l))

    -- one of the same column above or below the four
    beside : (row : ℕ) → row < rows → (row / 4 ≡ f → ⊥) → out' ! ((f * dof + c) * rows + row) ≡ out ! ((f * dof + c) * rows + row)
    beside row r ne = side (ltb row (f * 4)) refl
      where
        side : (t : Bool) → ltb row (f * 4) ≡ t → out' ! ((f * dof + c) * rows + row) ≡ out ! ((f * dof + c) * rows + row)
        side true e = let x : row < f * 4 = ltb-true row (f * 4) e in before_is ((f * dof + c) * rows + row) (omega arith)
        side false e =
            let x : f * 4 ≤ row = ltb-false row (f * 4) e in
            let y : f * 4 + 4 ≤ row = omega arith in
            after_is ((f * dof + c) * rows + row) (omega arith)

    -- and one of the four
    inside : (row : ℕ) → row / 4 ≡ f → out' ! ((f * dof + c) * rows + row) ≡ jacobian_cell frames actions ds n info dof row (f * dof + c)
    inside row e =
        let w : f * 4 + row % 4 ≡ row = omega arith in
        let q : (f * dof + c) * rows + row ≡ at + row % 4 = omega arith in
        ap (λ i. out' ! i) q ∙ written_inside out at 4 _ (row % 4) (omega (arith, fits)) (omega arith) ∙ sym (block_is dof f c j frames actions ds n info (row % 4) (omega arith)) ∙ ap (λ r. jacobian_cell frames actions ds n info dof r (f * dof + c)) w

    cell_is : (g d row : ℕ) → g < upto → d < dof → row < rows → (row / 4 ≡ g → left' g d → ⊥) → out' ! ((g * dof + d) * rows + row) ≡ jacobian_cell frames actions ds n info dof row (g * dof + d)
    cell_is g d row gh dh rh free = pick (eqb (g * dof + d) (f * dof + c)) refl
      where
        same-column : (t : Bool) → eqb (row / 4) f ≡ t → out' ! ((f * dof + c) * rows + row) ≡ jacobian_cell frames actions ds n info dof row (f * dof + c)
        same-column true e = inside row (eqb-true (row / 4) f e)
        same-column false e = let ne = eqb-false (row / 4) f e in beside row rh ne ∙ p.cells f c row u j rh (λ t l. ne t)

        pick : (t : Bool) → eqb (g * dof + d) (f * dof + c) ≡ t → out' ! ((g * dof + d) * rows + row) ≡ jacobian_cell frames actions ds n info dof row (g * dof + d)
        pick true e = let same = eqb-true (g * dof + d) (f * dof + c) e in rw same (same-column (eqb (row / 4) f) refl)
        pick false e =
            let ne = eqb-false (g * dof + d) (f * dof + c) e in
            other (g * dof + d) row rh ne ∙ p.cells g d row gh dh rh (λ s l. free s (more g d l (λ x. ne (ap₂ (λ a b. a * dof + b) x.0 x.1))))

    pub partly_more : Partly upto left' out'
    partly_more = record { size = length-written out at 4 _ fits ∙ p.size; cells = cell_is }

  -- what a batch has left, with the first c columns of its blocks done, and of column c that of its first k frames
  abbrev Left : ℕ → ℕ → ℕ → ℕ → ℕ → ℕ → Type 0
  Left from size c k g d = (from ≤ g) × (g < from + size → c ≤ d) × (g < from + k → c < d)

  module _ (from size : ℕ) (within : from + size ≤ count) where
    -- one column of the batch's blocks, frame after frame
    column-put : (out : List Float) (c k : ℕ) → c < dof → k ≤ size → Partly (from + size) (Left from size c 0) out
        → Partly (from + size) (Left from size c k) (put_columns out ((from * dof + c) * ((count + 1) * 4) + from * 4) (dof * ((count + 1) * 4) + 4) (λ k r. block_cell frames actions ds n info (from + k) c r) k)
    unfolding put_columns
    column-put out c zero h j p = p
    column-put out c (suc k) h j p =
        rw (block-place from k dof c ((count + 1) * 4)) (partly_more (from + size) (Left from size c k) (Left from size c (suc k)) _ (from + k) c (omega arith) (omega arith) h (λ g d l ne. (l.0, l.1, step g d l ne)) (column-put out c k h (omega arith) p))
      where
        step : (g d : ℕ) → Left from size c k g d → ((g ≡ from + k) × (d ≡ c) → ⊥) → g < from + suc k → c < d
        step g d l ne q = go (ltb g (from + k)) refl
          where
            go : (t : Bool) → ltb g (from + k) ≡ t → c < d
            go true e = l.2 (ltb-true g (from + k) e)
            go false e =
                let x : from + k ≤ g = ltb-false g (from + k) e in
                let y : g ≡ from + k = omega arith in
                let m : c ≤ d = l.1 (omega arith) in
                let z : d ≡ c → ⊥ = λ w. ne (y, w) in
                omega arith

    -- and column after column
    columns-put : (out : List Float) (c : ℕ) → c ≤ dof → Partly (from + size) (Left from size 0 0) out
        → Partly (from + size) (Left from size c 0) (put_blocks out from dof ((count + 1) * 4) size (λ c k r. block_cell frames actions ds n info (from + k) c r) c)
    unfolding put_blocks
    columns-put out zero h p = p
    columns-put out (suc c) h p =
        partly_weaken {left = Left from size c size} {left' = Left from size (suc c) 0} (λ g d b l. (l.0, λ q. next (l.2 q), λ q. none l.0 q)) (column-put _ c size (omega arith) (omega arith) (columns-put out c (omega arith) p))
      where
        next : {d : ℕ} → c < d → suc c ≤ d
        next x = omega arith

        none : {g e : ℕ} → from ≤ g → g < from + 0 → suc c < e
        none x y = omega arith

    -- the batch's columns, before its first block: what lies before them stays, and they are +0
    batch_cleared : (out : List Float) → Partly from (λ g d. from ≤ g) out → Partly (from + size) (λ g d. from ≤ g) (cleared out from dof ((count + 1) * 4) size)
    batch_cleared out p = record { size = length-written out at many _ fits ∙ p.size; cells = cell_is }
      where
        rows : ℕ
        rows = (count + 1) * 4

        at : ℕ
        at = from * dof * rows

        many : ℕ
        many = size * dof * rows

        fits : at + many ≤ length out
        fits = omega (arith, p.size, add-mul from size dof, add-mul (from * dof) (size * dof) rows, mul-le-mul_right rows (mul-le-mul_right dof within))

        cell_is : (g d row : ℕ) → g < from + size → d < dof → row < rows → (row / 4 ≡ g → from ≤ g → ⊥) → cleared out from dof rows size ! ((g * dof + d) * rows + row) ≡ jacobian_cell frames actions ds n info dof row (g * dof + d)
        cell_is g d row gh dh rh free = side (ltb g from) refl
          where
            side : (t : Bool) → ltb g from ≡ t → cleared out from dof rows size ! ((g * dof + d) * rows + row) ≡ jacobian_cell frames actions ds n info dof row (g * dof + d)
            side true e =
                let l : g < from = ltb-true g from e in
                let col : g * dof + d < from * dof = omega (arith, mul-le-mul_right dof l, suc-mul g dof) in
                written-before out at many _ ((g * dof + d) * rows + row) (omega (arith, fits)) (omega (arith, cell rows (from * dof) row (g * dof + d) rh col)) ∙ p.cells g d row l dh rh (λ s k. free s k)
            side false e =
                let l : from ≤ g = ltb-false g from e in
                let own : (g - from) * dof + d < size * dof = let m : g - from < size = omega arith in omega (arith, mul-le-mul_right dof m, suc-mul (g - from) dof) in
                let split : g ≡ from + (g - from) = omega arith in
                let place : (g * dof + d) * rows + row ≡ at + (((g - from) * dof + d) * rows + row)
                = ap (λ q. (q * dof + d) * rows + row) split ∙ rw (add-mul from (g - from) dof) (let a = add-mul (from * dof + (g - from) * dof) d rows in let b = add-mul (from * dof) ((g - from) * dof) rows in let c = add-mul ((g - from) * dof) d rows in omega arith) in
                ap (λ q. cleared out from dof rows size ! q) place ∙ written_inside out at many _ (((g - from) * dof + d) * rows + row) (omega (arith, fits)) (omega (arith, cell rows (size * dof) row ((g - from) * dof + d) rh own)) ∙ sym (beside_is dof g d dh frames actions ds n info row (λ s. free s l))

    -- and after its last
    pub partly_batch : (out : List Float) → Partly from (λ g d. from ≤ g) out → Partly (from + size) (λ g d. from + size ≤ g) (put_blocks (cleared out from dof ((count + 1) * 4) size) from dof ((count + 1) * 4) size (λ c k r. block_cell frames actions ds n info (from + k) c r) dof)
    partly_batch out p =
        partly_weaken {left = Left from size dof 0} {left' = λ g d. from + size ≤ g} last (columns-put _ dof (omega arith) (partly_weaken {left = λ g d. from ≤ g} {left' = Left from size 0 0} first (batch_cleared out p)))
      where
        first : (g d : ℕ) → d < dof → from ≤ g → Left from size 0 0 g d
        first g d b l = (l, λ q. omega arith, λ q. omega arith)

        last : (g d : ℕ) → d < dof → Left from size dof 0 g d → from + size ≤ g
        last g d b l = go (ltb g (from + size)) refl
          where
            go : (t : Bool) → ltb g (from + size) ≡ t → from + size ≤ g
            go true e = let m : dof ≤ d = l.1 (ltb-true g (from + size) e) in omega arith
            go false e = ltb-false g (from + size) e

  -- before the first batch, and after the last
  pub partly_none : (out : List Float) → length out ≡ count * dof * ((count + 1) * 4) → Partly 0 (λ g d. 0 ≤ g) out
  partly_none out m = record { size = m; cells = λ g d row a b r free. absurd (not-suc-le-zero a) }

  pub partly_all : (out : List Float) (from : ℕ) → count ≤ from → Partly from (λ g d. from ≤ g) out → out ≡ grid ((count + 1) * 4) (count * dof) (jacobian_cell frames actions ds n info dof)
  partly_all out from h p =
      let m = length-grid ((count + 1) * 4) (count * dof) (jacobian_cell frames actions ds n info dof) in
      ext_get_or nan out _ (p.size ∙ sym m) (λ i l. ap (λ q. out ! q) (sym (div-add-mod' i ((count + 1) * 4))) ∙ place (i / ((count + 1) * 4)) (i % ((count + 1) * 4)) (mod-lt i (omega arith)) ((div-lt_iff_lt-mul (omega arith)).1 (omega (arith, l, p.size))) ∙ ap (λ q. whole ! q) (div-add-mod' i ((count + 1) * 4)))
    where
      whole : List Float
      whole = grid ((count + 1) * 4) (count * dof) (jacobian_cell frames actions ds n info dof)

      some : (a b x : ℕ) → x < a * b → 0 < b
      some a zero x l = absurd (not-suc-le-zero (rw mul-zero at l))
      some a (suc b) x l = omega arith

      place : (col row : ℕ) → row < (count + 1) * 4 → col < count * dof → out ! (col * ((count + 1) * 4) + row) ≡ whole ! (col * ((count + 1) * 4) + row)
      place col row r c =
          let e = div-add-mod' col dof in
          let is = rw e at (p.cells (col / dof) (col % dof) row (early ((div-lt_iff_lt-mul (some count dof col c)).1 c)) (mod-lt col (some count dof col c)) r (λ s (l : from ≤ col / dof). far l)) in
          is ∙ sym (at-grid ((count + 1) * 4) (count * dof) (jacobian_cell frames actions ds n info dof) row col r c) ∙ ap (λ q. whole ! q) (off-add (col * ((count + 1) * 4)) row)
        where
          early : col / dof < count → col / dof < from
          early l = omega arith

          far : from ≤ col / dof → ⊥
          far l = let q : col / dof < count = (div-lt_iff_lt-mul (some count dof col c)).1 c in omega arith
