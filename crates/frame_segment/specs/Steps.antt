-- What the loops work out of the rows that they are handed, and that of a frame's rows it is the frame's block and vector. Assumes nothing.
use Rattle.std.specs.Prelude.{ℕ, ◌+◌, ◌*◌, ◌<◌, ◌≤◌, ◌≡◌, refl, List, [], ◌∷◌, length, get_or, Float}
use Rattle.std.proofs.Common.{arith, ap, ◌∙◌}
use Rattle.std.specs.Float.{nan}
use Rattle.sums.specs.Sum.{◌⊕◌, ◌⊗◌, column}
use Rattle.sums.specs.Fill.{padded, first_of}
use Rattle.derivative.specs.Action.{action_size, origin_place}
use Rattle.derivative.specs.Derivative.{normal_row, combined, shifted, d_an, d_along, d_scatter, rows, scatter-row, along-row}
use Rattle.terms.specs.Terms.{add_all, segment, block}
use Rattle.terms.proofs.Laws.{segment-same, block_same}
use Rattle.point_moments.specs.declared.scatter.Centred.{Centred}
use Rattle.point_moments.specs.Scatter.{CENTRED, centred_of}
use Rattle.plane_fit.specs.Records.{record_of, record_length}
use Rattle.plane_fit.specs.Fit.{frame_at, action_at}
use Rattle.frame_segment.specs.Frame.{block_entry, pulled_entry}
use Rattle.frame_segment.specs.declared.Rows.{Rows}

-- the rows of a frame f with the action x under a normal n: so many numbers, and +0 from there on
unfoldable pub frame_rows : List Float → Centred → List Float → ℕ → Rows
frame_rows x f n width = record {
  d0 = padded 9 width (d_an x n 0);
  d1 = padded 9 width (d_an x n 1);
  d2 = padded 9 width (d_an x n 2);
  p0 = padded 9 width (d_scatter x n (column 3 f.scatter 0));
  p1 = padded 9 width (d_scatter x n (column 3 f.scatter 1));
  p2 = padded 9 width (d_scatter x n (column 3 f.scatter 2));
  m = padded 9 width (d_along x n f.mean);
}

-- row i of a column: ((Σ_k p_k(i)·s_k) + (m_i·t)·count)·weight
unfoldable pub column_entry : Rows → List Float → Float → Float → Float → ℕ → Float
column_entry r s t count weight i = (combined (rows r.p0 r.p1 r.p2) s i ⊕ get_or r.m i nan ⊗ t ⊗ count) ⊗ weight

unfoldable pub rows_entry : Rows → Float → Float → ℕ → ℕ → Float
rows_entry r count weight i j = column_entry r (get_or r.d0 j nan ∷ get_or r.d1 j nan ∷ get_or r.d2 j nan ∷ []) (get_or r.m j nan) count weight i

-- entry i of a vector: ((Σ_l d_l(i)·s_l) + m_i·t)·weight
unfoldable pub rows_vector : Rows → List Float → Float → Float → ℕ → Float
rows_vector r s t weight i = (combined (rows r.d0 r.d1 r.d2) s i ⊕ get_or r.m i nan ⊗ t) ⊗ weight

-- frame k and its action are whole in their lists
pub record Held (frames actions : List Float) (k : ℕ) : Type 0 where
  pub frame : CENTRED * k + CENTRED ≤ length frames
  pub action : action_size * k + action_size ≤ length actions

-- a block of entries e and a vector of entries v are added at row `at` of a Hessian of order n and a gradient
pub record Added (n at width : ℕ) (e : ℕ → ℕ → Float) (v : ℕ → Float) (h h' g g' : List Float) : Type 0 where
  pub hessian : h' ≡ add_all h (block n at width e)
  pub gradient : g' ≡ add_all g (segment at width v)

-- ---- laws

-- rows that end within the order end within a gradient of that order
pub inside : {end n l : ℕ} → end ≤ n → l ≡ n → end ≤ l
inside fit e = omega arith

-- what was read of lists that hold it whole is as long as it should be
pub frame_whole : (frames actions : List Float) (k : ℕ) {l : List Float} → Held frames actions k → l ≡ record_of CENTRED frames k → length l ≡ CENTRED
frame_whole frames actions k held e = ap length e ∙ record_length CENTRED frames k held.frame

pub action_long : (frames actions : List Float) (k : ℕ) {x : List Float} {end : ℕ} → end ≤ action_size → Held frames actions k → x ≡ action_at actions k → end ≤ length x
action_long frames actions k fit held e = inside fit (ap length e ∙ record_length action_size actions k held.action)

-- THE ROWS OF A FRAME: each premise is what one call of the code says, in the code's order
pub rows_are : (x n : List Float) (f : Centred) (width : ℕ) {o d0 d1 d2 m p0 p1 p2 : List Float}
    → o ≡ padded 9 width (normal_row x origin_place n) → d0 ≡ padded 9 width (d_an x n 0) → d1 ≡ padded 9 width (d_an x n 1) → d2 ≡ padded 9 width (d_an x n 2)
    → m ≡ padded 9 width (shifted (λ i. get_or o i nan) (rows d0 d1 d2) f.mean)
    → p0 ≡ padded 9 width (combined (rows d0 d1 d2) (column 3 f.scatter 0))
    → p1 ≡ padded 9 width (combined (rows d0 d1 d2) (column 3 f.scatter 1))
    → p2 ≡ padded 9 width (combined (rows d0 d1 d2) (column 3 f.scatter 2))
    → record { d0 = d0; d1 = d1; d2 = d2; p0 = p0; p1 = p1; p2 = p2; m = m } ≡ frame_rows x f n width
unfolding frame_rows
rows_are x n f width {o} {d0} {d1} {d2} ho h0 h1 h2 hm q0 q1 q2 =
    let along = hm ∙ along-row x n width d0 d1 d2 h0 h1 h2 f.mean o ho in
    let first = q0 ∙ scatter-row x n width d0 d1 d2 h0 h1 h2 (column 3 f.scatter 0) in
    let second = q1 ∙ scatter-row x n width d0 d1 d2 h0 h1 h2 (column 3 f.scatter 1) in
    let third = q2 ∙ scatter-row x n width d0 d1 d2 h0 h1 h2 (column 3 f.scatter 2) in
    cc (h0, h1, h2, along, first, second, third)

-- what is worked out of them is the frame's
module _ (x n : List Float) (f : Centred) (width : ℕ) {r : Rows} (is : r ≡ frame_rows x f n width) where
  pub entry_is : (weight : Float) (i j : ℕ) → i < width → j < width → rows_entry r f.count weight i j ≡ block_entry x f n weight i j
  unfolding frame_rows rows_entry column_entry block_entry combined
  entry_is weight i j k l =
      rw is (cc (
        first_of 9 width (d_along x n f.mean) _ refl i k,
        first_of 9 width (d_along x n f.mean) _ refl j l,
        first_of 9 width (d_scatter x n (column 3 f.scatter 0)) _ refl i k,
        first_of 9 width (d_scatter x n (column 3 f.scatter 1)) _ refl i k,
        first_of 9 width (d_scatter x n (column 3 f.scatter 2)) _ refl i k,
        first_of 9 width (d_an x n 0) _ refl j l,
        first_of 9 width (d_an x n 1) _ refl j l,
        first_of 9 width (d_an x n 2) _ refl j l,
      ))

  pub vector_is : (s : List Float) (t weight : Float) (i : ℕ) → i < width → rows_vector r s t weight i ≡ pulled_entry x f n s t weight i
  unfolding frame_rows rows_vector pulled_entry combined
  vector_is s t weight i k =
      rw is (cc (
        first_of 9 width (d_along x n f.mean) _ refl i k,
        first_of 9 width (d_an x n 0) _ refl i k,
        first_of 9 width (d_an x n 1) _ refl i k,
        first_of 9 width (d_an x n 2) _ refl i k,
      ))

  rows-add : (order at : ℕ) (s : List Float) (t weight : Float) (h h' g g' : List Float)
      → h' ≡ add_all h (block order at width (rows_entry r f.count weight)) → g' ≡ add_all g (segment at width (rows_vector r s t weight))
      → Added order at width (block_entry x f n weight) (pulled_entry x f n s t weight) h h' g g'
  rows-add order at s t weight h h' g g' eh eg = record {
    hessian = eh ∙ ap (add_all h) (block_same order at width _ _ (entry_is weight));
    gradient = eg ∙ ap (add_all g) (segment-same at width _ _ (vector_is s t weight));
  }

-- THE BLOCK AND VECTOR OF FRAME k, at every width: each premise is what one call of the code says, in the code's order
pub adds : (frames actions n s : List Float) (t weight : Float) (k : ℕ) {width order at : ℕ} {l x h h' g g' : List Float} {f : Centred} {r : Rows}
    → l ≡ record_of CENTRED frames k → f ≡ centred_of l → x ≡ action_at actions k → r ≡ frame_rows x f n width
    → h' ≡ add_all h (block order at width (rows_entry r f.count weight)) → g' ≡ add_all g (segment at width (rows_vector r s t weight))
    → Added order at width (block_entry (action_at actions k) (frame_at frames k) n weight) (pulled_entry (action_at actions k) (frame_at frames k) n s t weight) h h' g g'
adds frames actions n s t weight k {width} {order} {at} {l} {x} {h} {h'} {g} {g'} {f} {r} el ef ex er eh eg =
    rw (ef ∙ ap centred_of el, ex) at (rows-add x n f width er order at s t weight h h' g g' eh eg)

-- a width that was tested for
pub at_width : (n at width w : ℕ) (e : ℕ → ℕ → Float) (v : ℕ → Float) (h h' g g' : List Float) → width ≡ w → Added n at w e v h h' g g' → Added n at width e v h h' g g'
at_width n at width w e v h h' g g' same added = rw same added
