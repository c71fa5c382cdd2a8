-- Laws of a block and its vector that stand side by side by rows, and of what a transform makes of them. Assumes nothing.
use Prim.Native.Nat.{ℕ, ◌+◌, ◌*◌, ◌<◌, ◌≤◌}
use native.Mathlib.Nat.{add_assoc, add-zero, zero-mul, zero-add, not-suc-le-zero}
use native.Mathlib.Omega.{arith}
use mathlib.Core.Path.{◌≡◌, refl, sym, ap, ◌∙◌}
use mathlib.Core.List.{List}
use lib.ListN.{length, set, length-set, length-append, replicate, length-replicate, get_or-replicate}
use lib.Seq.{get_or-set_same, get_or-set_other}
use lib.Ieee.{Float, nan}
use borrow.Author.Tests.{lt-ltb, le-ltb}
use Rattle.std.specs.Prelude.{Option, Some, None}
use Rattle.sums.specs.Sum.{◌⊕◌, ◌⊗◌, zero_f, sum_to}
use Rattle.sums.specs.Laws.{length-tab, sum_to_more, sum_to-same, up_to}
use Rattle.sums.specs.Fill.{padded, first_of, written, length-written, written-before, written_inside, written_same, written_more, column_ends}
use Rattle.lists.specs.Part.{◌!◌}
use Rattle.terms.specs.Terms.{add_all, segment, block}
use Rattle.terms.proofs.Laws.{segment-same, block_same}
use Rattle.normal_blocks.specs.Target.{number_from}
use Rattle.block_transforms.proofs.Laws.{room}
use Rattle.block_transforms.specs.Transform.{ROOM, entry_from, left_product, transformed_block, transformed_vector, block_under, vector_under, width_under, sized}
use Rattle.block_transforms.specs.declared.Shape.{Shape}
use Rattle.transform_products.specs.Rows.{rows_of, row_with, spaced, Sums, Raised, Rows, AddedThrough}

-- row i ends within ninety numbers
pub row_fits : (i stride : ℕ) → i < 9 → stride ≤ 10 → i * stride + stride ≤ 90
row_fits i stride l narrow = omega (arith, column_ends stride 9 i l)

-- ---- sums that grow by a row: before the first number, and after one more
pub raised_none : (x : Float) (a : List Float) (at lanes : ℕ) (s : List Float) → length s ≡ 10 → Raised x a at lanes 0 s s
raised_none x a at lanes s n = record { done = λ i l. absurd (not-suc-le-zero l); rest = λ i l. refl; size = n }

pub raised_more : (x : Float) (a : List Float) (at lanes k : ℕ) (s s' : List Float) (v : Float) → k < 10 → v ≡ (s' ! k) ⊕ x ⊗ (a ! (at + k)) → Raised x a at lanes k s s' → Raised x a at lanes (k + 1) s (set s' k v)
raised_more x a at lanes k s s' v l e p = record {
  done = up_to {P = λ i. set s' k v ! i ≡ (s ! i) ⊕ x ⊗ (a ! (at + i))} k
      (get_or-set_same s' k v nan (omega (arith, p.size)) ∙ e ∙ rw (p.rest k (omega arith)))
      (λ i h. get_or-set_other s' k i v nan (λ q. omega arith) ∙ p.done i h);
  rest = λ i h. get_or-set_other s' k i v nan (λ q. omega arith) ∙ p.rest i (omega arith);
  size = length-set s' k v ∙ p.size;
}

-- so many sums of no row, of the first, and of one more
pub sums_none : (lanes : ℕ) → lanes ≤ 10 → Sums lanes (λ k. zero_f) (replicate 10 zero_f)
sums_none lanes few = record { are = λ k l. get_or-replicate 10 k zero_f nan (omega arith); size = refl }

module _ (t : List Float) (from : ℕ) (a : List Float) (stride lanes : ℕ) where
  abbrev row_sum : ℕ → ℕ → Float
  row_sum rows k = sum_to rows (λ q. number_from t from q ⊗ rows_of stride a q k)

  pub sums_first : (x : Float) (s : List Float) → x ≡ t ! from → Sums lanes (λ k. x ⊗ (a ! k)) s → Sums lanes (row_sum 1) s
  unfolding number_from rows_of
  sums_first x s e p = record { are = λ k l. p.are k l ∙ rw (e, zero-mul, zero-add, add-zero); size = p.size }

  pub sums_more : (r : ℕ) (x : Float) (s s' : List Float) → 0 < r → x ≡ t ! (from + r) → Raised x a (r * stride) lanes lanes s s' → Sums lanes (row_sum r) s → Sums lanes (row_sum (r + 1)) s'
  unfolding number_from rows_of
  sums_more r x s s' some e raised p = record {
    are = λ k l. raised.done k l ∙ rw (p.are k l, e) (sym (sum_to_more r (λ q. (t ! (from + q)) ⊗ (a ! (q * stride + k))) some));
    size = raised.size;
  }

-- ---- rows that are written one after the other
-- a row of the block, and behind it the vector's number
pub row_written : (width : ℕ) (e : ℕ → ℕ → Float) (v : ℕ → Float) (base i : ℕ) (f : ℕ → Float) (x : Float) (out out' : List Float) → base + width < length out → ((k : ℕ) → k < width → f k ≡ e i k) → x ≡ v i
    → out' ≡ written out base width f → set out' (base + width) x ≡ written out base (width + 1) (row_with width e v i)
unfolding row_with
row_written width e v base i f x out out' fit same is wrote =
    let row = row_with width e v i in
    let first : out' ≡ written out base width row = wrote ∙ written_same out base width f row (λ k l. same k l ∙ rw (lt-ltb k width l)) in
    let last : x ≡ row width = is ∙ rw (le-ltb width width (omega arith)) in
    rw (first, last) (written_more out base width row fit)

pub rows_none : (stride lanes : ℕ) (f : ℕ → ℕ → Float) (a : List Float) → length a ≡ 90 → Rows stride lanes f 0 a
rows_none stride lanes f a n = record { are = λ i k l h. absurd (not-suc-le-zero l); size = n }

pub rows_more : (stride lanes : ℕ) (f : ℕ → ℕ → Float) (i : ℕ) (v : ℕ → Float) (a a' : List Float) → i < 9 → stride ≤ 10 → lanes ≤ stride → ((k : ℕ) → k < lanes → v k ≡ f i k)
    → a' ≡ written a (i * stride) lanes v → Rows stride lanes f i a → Rows stride lanes f (i + 1) a'
unfolding rows_of
rows_more stride lanes f i v a a' l narrow few is wrote before = record {
  are = λ j k h h'. up_to {P = λ j. a' ! (j * stride + k) ≡ f j k} i (here k h') (λ j q. there j k q h') j h;
  size = ap length wrote ∙ length-written a (i * stride) lanes v (omega (arith, row_fits i stride l narrow, before.size)) ∙ before.size;
}
  where
    here : (k : ℕ) → k < lanes → a' ! (i * stride + k) ≡ f i k
    here k h = rw wrote (written_inside a (i * stride) lanes v k (omega (arith, row_fits i stride l narrow, before.size)) h ∙ is k h)

    there : (j k : ℕ) → j < i → k < lanes → a' ! (j * stride + k) ≡ f j k
    there j k q h =
        rw wrote (written-before a (i * stride) lanes v (j * stride + k) (omega (arith, row_fits i stride l narrow, before.size)) (omega (arith, column_ends stride i j q))) ∙ before.are j k q h

-- a row of Tᵀ·(M v), of numbers of t that are a column of T
pub left_is : (t : List Float) (from rows : ℕ) (a : List Float) (stride lanes i : ℕ) (s : List Float)
    → Sums lanes (λ k. sum_to rows (λ q. number_from t (from + i * rows) q ⊗ rows_of stride a q k)) s → (k : ℕ) → k < lanes → s ! k ≡ left_product rows (entry_from t from rows) (rows_of stride a) i k
unfolding left_product entry_from number_from
left_is t from rows a stride lanes i s p k l = p.are k l ∙ sum_to-same rows _ _ (λ q h. rw add_assoc)

-- a column of U-as-T, as it is added
pub column_added : (n at rows cols stride : ℕ) (t : List Float) (from : ℕ) (u : List Float) (j : ℕ) (column h h' : List Float)
    → column ≡ padded 9 cols (λ i. sum_to rows (λ k. number_from u (i * stride) k ⊗ number_from t (from + j * rows) k)) → h' ≡ add_all h (segment ((at + j) * n + at) cols (number_from column 0))
    → h' ≡ add_all h (segment ((at + j) * n + at) cols (λ i. sum_to rows (λ k. rows_of stride u i k ⊗ entry_from t from rows k j)))
unfolding rows_of entry_from number_from
column_added n at rows cols stride t from u j column h h' made e =
    e ∙ ap (add_all h) (segment-same ((at + j) * n + at) cols _ _ (λ i l. rw (zero-add i) (first_of 9 cols _ column made i l ∙ sum_to-same rows _ _ (λ k q. rw add_assoc))))

pub right_size : (cols : ℕ) (f : ℕ → Float) (column : List Float) → cols ≤ 9 → column ≡ padded 9 cols f → length column ≡ 9
unfolding padded
right_size cols f column few e = ap length e ∙ simp (length-append, length-tab, length-replicate) (omega arith)

-- ---- equal blocks and equal vectors give equal ones
pub block-through : (rows : ℕ) (t m m' : ℕ → ℕ → Float) → ((i j : ℕ) → i < rows → j < rows → m i j ≡ m' i j) → (i j : ℕ)
    → transformed_block rows t m i j ≡ transformed_block rows t m' i j
unfolding transformed_block left_product
block-through rows t m m' same i j =
    sum_to-same rows _ _ (λ k l. ap (λ (u : Float). u ⊗ t k j) (sum_to-same rows _ _ (λ r h. ap (λ (x : Float). t r i ⊗ x) (same r k h l))))

pub vector_through : (rows : ℕ) (t : ℕ → ℕ → Float) (v v' : ℕ → Float) → ((i : ℕ) → i < rows → v i ≡ v' i) → (i : ℕ)
    → transformed_vector rows t v i ≡ transformed_vector rows t v' i
unfolding transformed_vector
vector_through rows t v v' same i = sum_to-same rows _ _ (λ r h. ap (λ (x : Float). t r i ⊗ x) (same r h))

-- and so they do under a shape that fits
abbrev pub Tall : ℕ → Option Shape → Type 0
Tall dof s = (rows cols : ℕ) → s ≡ sized rows cols → rows ≡ dof

pub under_same : (dof : ℕ) (s : Option Shape) (t : ℕ → ℕ → ℕ → Float) (e e' : ℕ → ℕ → Float) → Tall dof s → ((i j : ℕ) → i < dof → j < dof → e i j ≡ e' i j)
    → (i j : ℕ) → i < width_under s dof → j < width_under s dof → block_under s t e i j ≡ block_under s t e' i j
under_same dof None t e e' tall same i j li lj = same i j li lj
under_same dof (Some s) t e e' tall same i j li lj = block-through s.rows (t s.rows) e e' (λ a b la lb. same a b (rw (tall s.rows s.cols refl) at la) (rw (tall s.rows s.cols refl) at lb)) i j

pub under_run : (dof : ℕ) (s : Option Shape) (t : ℕ → ℕ → ℕ → Float) (v v' : ℕ → Float) → Tall dof s → ((i : ℕ) → i < dof → v i ≡ v' i)
    → (i : ℕ) → i < width_under s dof → vector_under s t v i ≡ vector_under s t v' i
under_run dof None t v v' tall same i li = same i li
under_run dof (Some s) t v v' tall same i li = vector_through s.rows (t s.rows) v v' (λ a la. same a (rw (tall s.rows s.cols refl) at la)) i

-- the numbers of a transform of dof rows are there
pub there_room : (dof rows cols from n : ℕ) → dof ≤ 9 → cols ≤ 9 → rows ≡ dof → from + ROOM ≤ n → from + cols * rows ≤ n
there_room dof rows cols from n few narrow tall fits = omega (arith, room rows cols (omega (arith, tall)) narrow, fits)

-- ---- Tᵀ·(M v), then its product with T, and its last number of each row: M and v have gone through the transform
pub gone_through : (n at rows cols stride : ℕ) (t : List Float) (from : ℕ) (m u h h' g g' : List Float)
    → Rows stride (rows + 1) (left_product rows (entry_from t from rows) (rows_of stride m)) cols u
    → h' ≡ add_all h (block n at cols (λ i j. sum_to rows (λ k. rows_of stride u i k ⊗ entry_from t from rows k j))) → g' ≡ add_all g (segment at cols (spaced stride u rows))
    → AddedThrough n at rows cols stride t from m u h h' g g'
unfolding transformed_block transformed_vector left_product spaced
gone_through n at rows cols stride t from m u h h' g g' left eh eg = record {
  hessian = eh ∙ ap (add_all h) (block_same n at cols _ _ (λ i j li lj. sum_to-same rows _ _ (λ k l. ap (λ (x : Float). x ⊗ entry_from t from rows k j) (left.are i k li (omega arith)))));
  gradient = eg ∙ ap (add_all g) (segment-same at cols _ _ (λ i li. left.are i rows li (omega arith)));
  room = left.size;
}
