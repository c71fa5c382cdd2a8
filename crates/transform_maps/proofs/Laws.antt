-- Laws of the multiplying call: what is copied and replaced, a transform that is made, and what is known where the call is accepted. Assumes nothing.
use Prim.Native.Nat.{ℕ, ◌+◌, ◌*◌, ◌-◌, ◌≤◌, ◌<◌}
use native.Mathlib.Nat.{zero-add, add-zero, zero-mul, suc-mul, mul-le-mul_right, mul_comm}
use native.Mathlib.Numerals.{add-one}
use native.Mathlib.Omega.{arith}
use mathlib.Core.Path.{◌≡◌, refl, sym, ap, ap₂, ◌∙◌}
use mathlib.Core.Bool.{false, not, ◌||◌}
use mathlib.Core.List.{List, [], ◌∷◌, ◌++◌, append_assoc}
use lib.Dec.{eqb, ltb}
use lib.ListN.{length, get_or, take, drop, length-append, replicate, length-replicate, get_or-replicate, replicate-append-replicate}
use lib.Seq.{ext_get_or, drop-drop, take_at, length-take-le, drop-append-add}
use lib.Ieee.{Float, nan}
use borrow.Author.Tests.{ltb-false, eqb-true, not-false, lt-ltb, le-ltb}
use Rattle.std.specs.Prelude.{Option, Some, None}
use Rattle.sums.specs.Sum.{◌⊕◌, ◌⊗◌, zero_f, tab, grid}
use Rattle.std.proofs.lemmas.List.{get_or-take}
use Rattle.sums.specs.Laws.{length-tab, tab-same, tab-get_or, get_or-tab, off-add, sum_to_more, length-grid, grid-column}
use Rattle.sums.specs.Fill.{written, written_same, padded, column_ends}
use Rattle.lists.specs.Part.{◌!◌, part}
use Rattle.refusals.specs.Refusal.{none, either_none}
use Rattle.terms.specs.Terms.{cell_of}
use Rattle.terms.proofs.Places.{grid_of_cells}
use Rattle.normal_blocks.specs.Somewhere.{nowhere-at}
use Rattle.normal_blocks.specs.Map.{bad_words}
use Rattle.normal_blocks.specs.Calls.{MOST_WORDS}
use Rattle.normal_blocks.specs.Target.{number_from}
use Rattle.derivative.specs.Action.{most_dof}
use Rattle.block_transforms.specs.Transform.{NO_TRANSFORM, ROOM, sized, shape_at, entry_from, width_under}
use Rattle.block_transforms.specs.Reasons.{bad_beside, MOST_COLUMNS, misfit}
use Rattle.block_transforms.proofs.Laws.{Fits, transform_fits, transform_there}
use Rattle.block_transforms.specs.declared.Shape.{Shape}
use Rattle.transform_maps.specs.Multiply.{Work, further_of, old_of, bad_slices, too_wide, wide_at, some_wide, unchained, bad_further, transform_refusal, newly_made, chained, made_entry, made_columns, or_else, spliced, replaced, new_shapes, new_transforms}

-- ---- a list that is empty or long enough
module _ {A : Type 0} where
  -- the list, or n times x where it is empty
  pub else_empty : (n : ℕ) (x : A) (l : List A) → length l ≡ 0 → replicate n x ≡ or_else n x l
  unfolding or_else
  else_empty n x [] e = refl
  else_empty n x (y ∷ l) e = absurd (omega arith)

  pub else_there : (n : ℕ) (x : A) (l : List A) → (length l ≡ 0 → ⊥) → l ≡ or_else n x l
  unfolding or_else
  else_there n x [] e = absurd (e refl)
  else_there n x (y ∷ l) e = refl

  -- a part that was lent and is back
  pub part_back : (size from end : ℕ) (old new new' : List A) → end ≡ from + size → new' ≡ new → take from old ++ (new' ++ drop (end - from) (drop from old)) ≡ spliced size from new old
  part_back size from end old new new' e same =
      let n : end - from ≡ size = omega arith in
      rw (same, n, drop-drop size from old)

  -- the word at the place, or none
  module _ (words place size : ℕ) (new old : List A) where
    pub past_end : words ≤ place → old ≡ replaced words place size new old
    unfolding replaced
    past_end h = rw (le-ltb place words h)

    pub at_place : place < words → spliced size (size * place) new old ≡ replaced words place size new old
    unfolding replaced
    at_place h = rw (lt-ltb place words h)

-- ---- what is made, column after column
-- +0 without the first n numbers
fewer_zeros : (n m : ℕ) → drop n (replicate (n + m) zero_f) ≡ replicate m zero_f
fewer_zeros n m =
    ap (drop n) (sym (replicate-append-replicate n m zero_f)) ∙ rw (length-replicate n zero_f, add-zero n) at (drop-append-add (replicate n zero_f) (replicate m zero_f) 0)

module _ (rows : ℕ) (t : ℕ → ℕ → Float) where
  pub made_none : replicate ROOM zero_f ≡ newly_made rows 0 t
  unfolding newly_made
  made_none = rw (zero-mul rows)

  pub made_more : (c : ℕ) (out out' : List Float) → c * rows + rows ≤ ROOM → out' ≡ written out (c * rows) rows (λ r. t r c) → out ≡ newly_made rows c t → out' ≡ newly_made rows (c + 1) t
  unfolding newly_made written
  made_more c out out' fit wrote before =
      let front = grid rows c t in
      let zeros = replicate (ROOM - c * rows) zero_f in
      let size : length front ≡ c * rows = length-grid rows c t in
      let more : ROOM - c * rows ≡ rows + (ROOM - (c * rows + rows)) = omega arith in
      let rest : drop (c * rows + rows) (front ++ zeros) ≡ replicate (ROOM - (c * rows + rows)) zero_f =
      rw size at (drop-append-add front zeros rows) ∙ ap (λ (n : ℕ). drop rows (replicate n zero_f)) more ∙ fewer_zeros rows (ROOM - (c * rows + rows)) in
      wrote ∙ rw (before, take_at front zeros (c * rows) size, rest, add-one c, suc-mul, grid-column rows c t, append_assoc)

-- of n sums so many are written
pub column-written : (out : List Float) (from rows n : ℕ) (sums : List Float) (f : ℕ → Float) → rows ≤ n → sums ≡ tab n f → written out from rows (λ r. sums ! r) ≡ written out from rows f
column-written out from rows n sums f fit e = written_same out from rows _ _ (λ r h. rw e (get_or-tab n f r (omega arith)))

-- a transform that is newly made has 81 numbers
pub length_made : (rows cols : ℕ) (t : ℕ → ℕ → Float) → cols * rows ≤ ROOM → length (newly_made rows cols t) ≡ ROOM
unfolding newly_made
length_made rows cols t h = simp (length-append, length-grid, length-replicate) (omega arith)

-- numbers that are copied from the front of a list
pub front_is : (n : ℕ) (l : List Float) → n ≤ length l → take n l ≡ tab n (λ k. l ! k)
front_is n l h = sym (tab-get_or n (take n l) (length-take-le n l h)) ∙ tab-same n _ _ (λ k m. get_or-take n l k nan m)

-- the further one alone
pub alone_is : (rows cols : ℕ) (further : List Float) → padded ROOM (cols * rows) (number_from further 0) ≡ newly_made rows cols (entry_from further 0 rows)
unfolding padded newly_made entry_from number_from
alone_is rows cols further =
    let first = tab (cols * rows) (λ e. get_or further (0 + e) nan) in
    let same : first ≡ grid rows cols (λ r c. get_or further (0 + (c * rows + r)) nan) =
    grid_of_cells rows cols _ first (length-tab (cols * rows) _) (λ i j li lj. get_or-tab (cols * rows) (λ e. get_or further (0 + e) nan) (cell_of rows i j) (omega (arith, column_ends rows cols j lj))) in
    rw same

-- and as it is copied to the front of 81 times +0
pub front_padded : (rows cols : ℕ) (further new : List Float) → cols * rows ≤ ROOM → length further ≡ ROOM → new ≡ take (cols * rows) further
    → new ++ drop (cols * rows) (replicate ROOM zero_f) ≡ newly_made rows cols (entry_from further 0 rows)
unfolding padded number_from
front_padded rows cols further new fit long e =
    let n = cols * rows in
    let m : ROOM ≡ n + (ROOM - n) = omega arith in
    let zeros : drop n (replicate ROOM zero_f) ≡ replicate (ROOM - n) zero_f = ap (λ (k : ℕ). drop n (replicate k zero_f)) m ∙ fewer_zeros n (ROOM - n) in
    rw (e, front_is n further (omega arith), zeros) (ap (λ (l : List Float). l ++ replicate (ROOM - n) zero_f) (tab-same n _ (number_from further 0) (λ k h. rw (zero-add k))) ∙ alone_is rows cols further)

-- n sums over the rows of column c: without a product, of the first one, and of one more
module _ (n rows : ℕ) (further numbers : List Float) (from inner c : ℕ) where
  abbrev sum_at : ℕ → ℕ → Float
  sum_at k r = chained k (entry_from further 0 rows) (entry_from numbers from inner) r c

  part_entry : (k r at : ℕ) → r < n → at ≡ k * rows → part n further at ! r ≡ entry_from further 0 rows r k
  unfolding entry_from
  part_entry k r at h e = get_or-tab n _ r h ∙ rw (off-add at r, e, zero-add)

  number_entry : (k at : ℕ) → at ≡ from + (c * inner + k) → numbers ! at ≡ entry_from numbers from inner k c
  unfolding entry_from
  number_entry k at e = rw e

  none-at : (r : ℕ) → zero_f ≡ sum_at 0 r
  unfolding chained
  none-at r = refl

  first-at : (r : ℕ) → r < n → part n further 0 ! r ⊗ (numbers ! (from + c * inner)) ≡ sum_at 1 r
  unfolding chained
  first-at r h = ap₂ ◌⊗◌ (part_entry 0 r 0 h (sym (zero-mul rows))) (number_entry 0 (from + c * inner) (omega arith))

  more_at : (k r : ℕ) → 0 < k → r < n → sum_at k r ⊕ (part n further (rows * k) ! r) ⊗ (numbers ! (from + c * inner + k)) ≡ sum_at (k + 1) r
  unfolding chained
  more_at k r some h =
      ap (λ (x : Float). sum_at k r ⊕ x) (ap₂ ◌⊗◌ (part_entry k r (rows * k) h (mul_comm rows k)) (number_entry k (from + c * inner + k) (omega arith)))
      ∙ sym (sum_to_more k (λ i. entry_from further 0 rows r i ⊗ entry_from numbers from inner i c) some)

  pub sums_none : replicate n zero_f ≡ tab n (λ r. chained 0 (entry_from further 0 rows) (entry_from numbers from inner) r c)
  sums_none = ext_get_or nan _ _ (length-replicate n zero_f ∙ sym (length-tab n _)) (λ r h.
      let l : r < n = rw length-replicate at h in
      get_or-replicate n r zero_f nan l ∙ none-at r ∙ sym (get_or-tab n _ r l))

  pub sums_first : tab n (λ i. part n further 0 ! i ⊗ (numbers ! (from + c * inner))) ≡ tab n (λ r. chained 1 (entry_from further 0 rows) (entry_from numbers from inner) r c)
  sums_first = tab-same n _ _ first-at

  pub sums_more : (k : ℕ) (sums : List Float) → 0 < k → sums ≡ tab n (λ r. chained k (entry_from further 0 rows) (entry_from numbers from inner) r c)
      → tab n (λ i. (sums ! i) ⊕ (part n further (rows * k) ! i) ⊗ (numbers ! (from + c * inner + k))) ≡ tab n (λ r. chained (k + 1) (entry_from further 0 rows) (entry_from numbers from inner) r c)
  sums_more k sums some es = tab-same n _ _ (λ r h. ap (λ (x : Float). x ⊕ (part n further (rows * k) ! r) ⊗ (numbers ! (from + c * inner + k))) (rw es (get_or-tab n _ r h)) ∙ more_at k r some h)

-- nine rows from a column's start on are within the 81
pub nine-within : (rows inner k : ℕ) → rows ≤ 9 → inner ≤ 9 → k < inner → rows * k + 9 ≤ ROOM
nine-within rows inner k few narrow h = omega (arith, mul_comm rows k, mul-le-mul_right k few)

-- ---- what is known where the call is accepted
pub record Accepted (w : Work) (out-shapes out-numbers : ℕ) : Type 0 where
  pub narrow : w.dof ≤ most_dof
  pub slices : bad_beside (length w.map) (length w.shapes) (length w.transforms) ≡ false
  pub further_long : length w.further ≡ ROOM
  pub shapes_long : out-shapes ≡ 2 * length w.map
  pub numbers_long : out-numbers ≡ ROOM * length w.map
  pub wide : some_wide (shape_at w.shapes) (length w.map) ≡ false
  pub fitting : bad_further w.dof (further_of w) (old_of w) ≡ false

long_is : (a b : ℕ) → not (eqb a b) ≡ false → a ≡ b
long_is a b h = eqb-true a b (not-false _ h)

pub accepted_work : (w : Work) (out-shapes out-numbers : ℕ) → transform_refusal w out-shapes out-numbers ≡ 0 → Accepted w out-shapes out-numbers
unfolding transform_refusal bad_slices
accepted_work w os on h =
    let one = none (ltb most_dof w.dof) 0 _ h in
    let three = none (bad_slices (length w.map) (length w.shapes) (length w.transforms) (length w.further-shape) (length w.further) os on) 2 _ one.1 in
    let nine = none (bad_words w.map) 8 _ three.1 in
    let fourteen = none (some_wide (shape_at w.shapes) (length w.map) || bad_further w.dof (further_of w) (old_of w)) 13 0 nine.1 in
    let words = either_none (ltb MOST_WORDS (length w.map)) _ three.0 in
    let beside = either_none (bad_beside (length w.map) (length w.shapes) (length w.transforms)) _ words.1 in
    let shape = either_none (not (eqb (length w.further-shape) 2)) _ beside.1 in
    let further = either_none (not (eqb (length w.further) ROOM)) _ shape.1 in
    let shapes = either_none (not (eqb os (2 * length w.map))) _ further.1 in
    let numbers = either_none (not (eqb on (ROOM * length w.map))) _ shapes.1 in
    let both = either_none (some_wide (shape_at w.shapes) (length w.map)) _ fourteen.0 in
    record {
      narrow = ltb-false most_dof w.dof one.0;
      slices = beside.0;
      further_long = long_is (length w.further) ROOM further.0;
      shapes_long = long_is os (2 * length w.map) shapes.0;
      numbers_long = long_is on (ROOM * length w.map) numbers.0;
      wide = both.0;
      fitting = both.1;
    }

-- the further one has dof rows and at most nine columns, and the old one as many rows as it has columns
further_fits : (dof rows cols : ℕ) (old : Option Shape) → bad_further dof (sized rows cols) old ≡ false → Fits dof rows cols × (unchained cols old ≡ false)
unfolding bad_further
further_fits dof rows cols old h =
    let p = either_none (misfit dof (sized rows cols)) _ h in
    (transform_fits dof rows cols (sized rows cols) refl p.0, p.1)

old_chains : (cols rows cols' : ℕ) → unchained cols (sized rows cols') ≡ false → cols ≡ rows
unfolding unchained
old_chains cols rows cols' h = long_is cols rows h

old-narrow : (shape : ℕ → Option Shape) (words k rows cols : ℕ) → some_wide shape words ≡ false → k < words → shape k ≡ sized rows cols → cols ≤ MOST_COLUMNS
unfolding some_wide wide_at too_wide
old-narrow shape words k rows cols none h e = ltb-false MOST_COLUMNS cols (rw e at (nowhere-at (wide_at shape) words none k h))

-- how wide what is made is, and the old transform at the place
module _ (w : Work) (os on : ℕ) (ok : transform_refusal w os on ≡ 0) where
  further_sized : (s : Option Shape) → bad_further w.dof s (old_of w) ≡ false → (width_under s 0 ≤ 9) × (unchained (width_under s 0) (old_of w) ≡ false)
  unfolding bad_further
  further_sized None h = let z : ◌≡◌ {A = ℕ} 0 1 = cc in absurd (omega arith)
  further_sized (Some s) h = let p = further_fits w.dof s.rows s.cols (old_of w) h in (p.0.narrow, p.1)

  pub old-known : (inner width : ℕ) → old_of w ≡ sized inner width → (width ≡ made_columns w) × (inner ≤ 9) × (ROOM * w.place + ROOM ≤ length w.transforms)
  old-known inner width e =
      let a = accepted_work w os on ok in
      let f = further_sized (further_of w) a.fitting in
      let chain : width_under (further_of w) 0 ≡ inner = old_chains (width_under (further_of w) 0) inner width (rw e at f.1) in
      (rw e, omega (arith, chain, f.0), (transform_there (length w.map) w.shapes (length w.transforms) w.place inner width a.slices e).1)

  pub made_narrow : made_columns w ≤ 9
  made_narrow = go (old_of w) refl
    where
      go : (s : Option Shape) → old_of w ≡ s → width_under s (width_under (further_of w) 0) ≤ 9
      go None e = (further_sized (further_of w) (accepted_work w os on ok).fitting).0
      go (Some s) e =
          let a = accepted_work w os on ok in
          old-narrow (shape_at w.shapes) (length w.map) w.place s.rows s.cols a.wide (transform_there (length w.map) w.shapes (length w.transforms) w.place s.rows s.cols a.slices e).0 e

-- ---- what the work leaves
pub multiplied : (w : Work) (cols : ℕ) (old : Option Shape) (made : List Float) (to : List ℕ) (out : List Float)
    → to ≡ replaced (length w.map) w.place 2 (w.dof ∷ cols ∷ []) (or_else (2 * length w.map) NO_TRANSFORM w.shapes)
    → out ≡ replaced (length w.map) w.place ROOM made (or_else (ROOM * length w.map) zero_f w.transforms)
    → cols ≡ made_columns w → old ≡ old_of w → made ≡ newly_made w.dof cols (made_entry old (entry_from w.further 0 w.dof) (entry_from w.transforms (ROOM * w.place)))
    → (to ≡ new_shapes w) × (out ≡ new_transforms w)
multiplied w cols old made to out ts us wide is e = (ts ∙ rw wide, us ∙ rw (e, wide, is))
