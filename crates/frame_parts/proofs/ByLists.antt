-- The part of a frame by its seven rows as lists, and of three columns and a vector that are lists of three. Assumes nothing.
use Rattle.std.specs.Prelude.{ℕ, ◌<◌, ◌≡◌, List, [], ◌∷◌, get_or, Float}
use Rattle.std.proofs.Common.{arith, ◌∙◌}
use Rattle.std.specs.Float.{nan}
use Rattle.sums.specs.Sum.{tab, column}
use Rattle.sums.specs.Laws.{tab-same}
use Rattle.sums.specs.Fill.{padded}
use Rattle.lists.specs.Part.{◌!◌}
use Rattle.derivative.specs.Action.{origin_place}
use Rattle.derivative.specs.Derivative.{normal_row, combined, shifted, d_an, rows}
use Rattle.point_moments.specs.declared.scatter.Centred.{Centred}
use Rattle.frame_normal.specs.Normal.{normal_in}
use Rattle.frame_cost.specs.Cost.{pull_of, frame_along, frame_cost}
use Rattle.frame_cost.specs.declared.Pull.{Pull}
use Rattle.frame_segment.specs.Frame.{block_entry, pulled_entry}
use Rattle.frame_segment.specs.Steps.{column_entry, rows_entry, rows_vector}
use Rattle.frame_segment.proofs.ByLists.{listed, entry_is, vector_is}
use Rattle.frame_parts.specs.Frame.{vector_entry}
use Rattle.frame_parts.specs.Parts.{part_of, numbers_of}
use Rattle.frame_parts.specs.declared.Part.{Part}

-- THE PART OF A FRAME
pub part_is : (x n : List Float) (f : Centred) (offset weight : Float) {o d0 d1 d2 m p0 p1 p2 u v w g : List Float} {pull : Pull}
    → pull ≡ pull_of f (normal_in x n) (frame_along x f n offset) weight
    → o ≡ padded 9 3 (normal_row x origin_place n) → d0 ≡ padded 9 3 (d_an x n 0) → d1 ≡ padded 9 3 (d_an x n 1) → d2 ≡ padded 9 3 (d_an x n 2)
    → m ≡ padded 9 3 (shifted (λ i. get_or o i nan) (rows d0 d1 d2) f.mean)
    → p0 ≡ padded 9 3 (combined (rows d0 d1 d2) (column 3 f.scatter 0))
    → p1 ≡ padded 9 3 (combined (rows d0 d1 d2) (column 3 f.scatter 1))
    → p2 ≡ padded 9 3 (combined (rows d0 d1 d2) (column 3 f.scatter 2))
    → u ≡ tab 3 (column_entry (listed d0 d1 d2 p0 p1 p2 m) ((d0 ! 0) ∷ (d1 ! 0) ∷ (d2 ! 0) ∷ []) (m ! 0) f.count weight)
    → v ≡ tab 3 (column_entry (listed d0 d1 d2 p0 p1 p2 m) ((d0 ! 1) ∷ (d1 ! 1) ∷ (d2 ! 1) ∷ []) (m ! 1) f.count weight)
    → w ≡ tab 3 (column_entry (listed d0 d1 d2 p0 p1 p2 m) ((d0 ! 2) ∷ (d1 ! 2) ∷ (d2 ! 2) ∷ []) (m ! 2) f.count weight)
    → g ≡ tab 3 (rows_vector (listed d0 d1 d2 p0 p1 p2 m) pull.turn pull.shift weight)
    → numbers_of (record { block = (u ! 0) ∷ (u ! 1) ∷ (u ! 2) ∷ (v ! 0) ∷ (v ! 1) ∷ (v ! 2) ∷ (w ! 0) ∷ (w ! 1) ∷ (w ! 2) ∷ []; vector = g; cost = pull.cost })
    ≡ part_of x f n offset weight
unfolding part_of vector_entry frame_cost rows_entry
part_is x n f offset weight {o} {d0} {d1} {d2} {m} {p0} {p1} {p2} {u} {v} {w} {g} {pull} hp ho h0 h1 h2 hm q0 q1 q2 hu hv hw hg =
    let entry = entry_is x n f 3 o d0 d1 d2 m p0 p1 p2 ho h0 h1 h2 hm q0 q1 q2 weight in
    let first : u ≡ tab 3 (λ i. block_entry x f n weight i 0) = hu ∙ tab-same 3 _ _ (λ i l. entry i 0 l (omega arith)) in
    let second : v ≡ tab 3 (λ i. block_entry x f n weight i 1) = hv ∙ tab-same 3 _ _ (λ i l. entry i 1 l (omega arith)) in
    let third : w ≡ tab 3 (λ i. block_entry x f n weight i 2) = hw ∙ tab-same 3 _ _ (λ i l. entry i 2 l (omega arith)) in
    let last : g ≡ tab 3 (pulled_entry x f n pull.turn pull.shift weight)
    = hg ∙ tab-same 3 _ _ (vector_is x n f 3 o d0 d1 d2 m p0 p1 p2 ho h0 h1 h2 hm q0 q1 q2 pull.turn pull.shift weight) in
    rw (first, second, third, last, hp)
