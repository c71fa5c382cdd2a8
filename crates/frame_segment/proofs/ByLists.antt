-- A frame's block and vector by its seven rows as lists: the laws of `Rows` with each row handed in on its own. Assumes nothing.
use Rattle.std.specs.Prelude.{ℕ, ◌<◌, ◌≡◌, List, get_or, Float}
use Rattle.std.specs.Float.{nan}
use Rattle.sums.specs.Sum.{column}
use Rattle.sums.specs.Fill.{padded}
use Rattle.derivative.specs.Action.{origin_place}
use Rattle.derivative.specs.Derivative.{normal_row, combined, shifted, d_an, rows}
use Rattle.terms.specs.Terms.{add_all, segment, block}
use Rattle.point_moments.specs.declared.scatter.Centred.{Centred}
use Rattle.point_moments.specs.Scatter.{CENTRED, centred_of}
use Rattle.plane_fit.specs.Records.{record_of}
use Rattle.plane_fit.specs.Fit.{frame_at, action_at}
use Rattle.frame_segment.specs.Frame.{block_entry, pulled_entry}
use Rattle.frame_segment.specs.declared.Rows.{Rows}
use Rattle.frame_segment.specs.Steps.{rows_are, rows_entry, rows_vector, Added}
use Rattle.frame_segment.specs.Steps as laws

-- seven lists as the rows of a frame
abbrev pub listed : List Float → List Float → List Float → List Float → List Float → List Float → List Float → Rows
listed d0 d1 d2 p0 p1 p2 m = record { d0 = d0; d1 = d1; d2 = d2; p0 = p0; p1 = p1; p2 = p2; m = m }

module _ (x n : List Float) (f : Centred) (width : ℕ) (o d0 d1 d2 m p0 p1 p2 : List Float) (ho : o ≡ padded 9 width (normal_row x origin_place n))
    (h0 : d0 ≡ padded 9 width (d_an x n 0)) (h1 : d1 ≡ padded 9 width (d_an x n 1)) (h2 : d2 ≡ padded 9 width (d_an x n 2))
    (hm : m ≡ padded 9 width (shifted (λ i. get_or o i nan) (rows d0 d1 d2) f.mean)) (q0 : p0 ≡ padded 9 width (combined (rows d0 d1 d2) (column 3 f.scatter 0)))
    (q1 : p1 ≡ padded 9 width (combined (rows d0 d1 d2) (column 3 f.scatter 1))) (q2 : p2 ≡ padded 9 width (combined (rows d0 d1 d2) (column 3 f.scatter 2))) where
  pub entry_is : (weight : Float) (i j : ℕ) → i < width → j < width → rows_entry (listed d0 d1 d2 p0 p1 p2 m) f.count weight i j ≡ block_entry x f n weight i j
  entry_is = laws.entry_is x n f width (rows_are x n f width ho h0 h1 h2 hm q0 q1 q2)

  pub vector_is : (s : List Float) (t weight : Float) (i : ℕ) → i < width → rows_vector (listed d0 d1 d2 p0 p1 p2 m) s t weight i ≡ pulled_entry x f n s t weight i
  vector_is = laws.vector_is x n f width (rows_are x n f width ho h0 h1 h2 hm q0 q1 q2)

-- THE BLOCK AND VECTOR OF FRAME k, at every width
pub adds : (frames actions n s : List Float) (t weight : Float) (k : ℕ) {width order at : ℕ} {l x o d0 d1 d2 m p0 p1 p2 h h' g g' : List Float} {f : Centred}
    → l ≡ record_of CENTRED frames k → f ≡ centred_of l → x ≡ action_at actions k
    → o ≡ padded 9 width (normal_row x origin_place n) → d0 ≡ padded 9 width (d_an x n 0) → d1 ≡ padded 9 width (d_an x n 1) → d2 ≡ padded 9 width (d_an x n 2)
    → m ≡ padded 9 width (shifted (λ i. get_or o i nan) (rows d0 d1 d2) f.mean)
    → p0 ≡ padded 9 width (combined (rows d0 d1 d2) (column 3 f.scatter 0))
    → p1 ≡ padded 9 width (combined (rows d0 d1 d2) (column 3 f.scatter 1))
    → p2 ≡ padded 9 width (combined (rows d0 d1 d2) (column 3 f.scatter 2))
    → h' ≡ add_all h (block order at width (rows_entry (listed d0 d1 d2 p0 p1 p2 m) f.count weight)) → g' ≡ add_all g (segment at width (rows_vector (listed d0 d1 d2 p0 p1 p2 m) s t weight))
    → Added order at width (block_entry (action_at actions k) (frame_at frames k) n weight) (pulled_entry (action_at actions k) (frame_at frames k) n s t weight) h h' g g'
adds frames actions n s t weight k {width} {order} {at} {l} {x} {o} {d0} {d1} {d2} {m} {p0} {p1} {p2} {h} {h'} {g} {g'} {f} el ef ex ho h0 h1 h2 hm q0 q1 q2 eh eg =
    laws.adds frames actions n s t weight k el ef ex (rows_are x n f width ho h0 h1 h2 hm q0 q1 q2) eh eg
