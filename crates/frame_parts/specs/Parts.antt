-- What a frame of three columns adds and costs, number after number: its block by columns, its vector, its cost. Those of a batch stand side by side
-- (batches). Definitions, then their laws. Assumes nothing.
-- x is the frame's action, f the centred frame, n the plane's normal and offset its offset.
use Rattle.std.specs.Prelude.{ℕ, ◌+◌, ◌*◌, ◌/◌, ◌%◌, ◌<◌, ◌≤◌, ◌≡◌, refl, List, [], ◌∷◌, ◌++◌, Float}
use Rattle.std.proofs.Common.{add-zero, arith, ap, ◌∙◌}
use Rattle.sums.specs.Sum.{tab}
use Rattle.sums.specs.Laws.{get_or-tab}
use Rattle.sums.specs.Fill.{padded, first_of}
use Rattle.lists.specs.Part.{◌!◌}
use Rattle.batches.specs.Beside.{place, beside_of, place_is}
use Rattle.terms.specs.Terms.{add_all, segment}
use Rattle.terms.proofs.Laws.{upto-none, segment-same, block_more, block_all, column-before}
use Rattle.point_moments.specs.declared.scatter.Centred.{Centred}
use Rattle.plane_fit.specs.Fit.{frame_at, action_at}
use Rattle.frame_normal.specs.Normal.{normal_in}
use Rattle.frame_cost.specs.Cost.{pull_of, frame_along, frame_cost}
use Rattle.frame_cost.specs.declared.Pull.{Pull}
use Rattle.frame_segment.specs.Frame.{block_entry}
use Rattle.frame_segment.specs.declared.Rows.{Rows}
use Rattle.frame_segment.specs.Steps.{frame_rows, rows_entry, rows_vector, Added, entry_is, vector_is}
use Rattle.frame_parts.specs.Frame.{vector_entry}
use Rattle.frame_parts.specs.declared.Part.{Part}

-- the most frames of a batch, how many numbers a part is, and how many those of a batch are
abbrev pub BATCH : ℕ
BATCH = 4

abbrev pub PART : ℕ
PART = 13

abbrev pub PARTS : ℕ
PARTS = 52

-- a part's numbers, one after the other
abbrev pub numbers_of : Part → List Float
numbers_of p = tab 9 (λ e. p.block ! e) ++ (tab 3 (λ i. p.vector ! i) ++ (p.cost ∷ []))

-- the part of a frame: row i of column j of the block is number 3·j + i
unfoldable pub part_of : List Float → Centred → List Float → Float → Float → List Float
part_of x f n offset weight = tab 9 (λ e. block_entry x f n weight (e % 3) (e / 3)) ++ (tab 3 (vector_entry x f n offset weight) ++ (frame_cost x f n offset weight ∷ []))

-- that of frame k of a call
abbrev pub part_at : List Float → List Float → List Float → Float → Float → ℕ → List Float
part_at frames actions n offset weight k = part_of (action_at actions k) (frame_at frames k) n offset weight

-- three numbers of the part of the batch's k-th frame, from number e on
abbrev pub three_in : List Float → ℕ → ℕ → List Float
three_in cells k e = tab 3 (λ i. beside_of BATCH PART cells k ! (e + i))

-- what that frame adds and costs, by its numbers
abbrev pub block_in : List Float → ℕ → ℕ → ℕ → Float
block_in cells k i j = beside_of BATCH PART cells k ! (3 * j + i)

abbrev pub vector_in : List Float → ℕ → ℕ → Float
vector_in cells k i = beside_of BATCH PART cells k ! (9 + i)

abbrev pub cost_in : List Float → ℕ → Float
cost_in cells k = beside_of BATCH PART cells k ! 12

-- ---- laws

-- number e of a part, by its place among those of the batch
number_is : (cells : List Float) (k e : ℕ) → e < PART → beside_of BATCH PART cells k ! e ≡ cells ! (e * BATCH + k)
number_is cells k e l = get_or-tab PART (λ d. cells ! place BATCH d k) e l ∙ ap (λ (p : ℕ). cells ! p) (place_is BATCH e k)

-- three of them, as code reads them
pub three_is : (cells : List Float) (k e : ℕ) → e + 3 ≤ PART
    → (cells ! (e * BATCH + k)) ∷ (cells ! ((e + 1) * BATCH + k)) ∷ (cells ! ((e + 2) * BATCH + k)) ∷ [] ≡ three_in cells k e
three_is cells k e fit =
    rw (number_is cells k (e + 0) (omega arith), number_is cells k (e + 1) (omega arith), number_is cells k (e + 2) (omega arith), add-zero e)

-- three columns from the row `at` on end within the matrix
pub columns_end : (n at : ℕ) → at + 3 ≤ n → (at * n + at + 3 ≤ n * n) × ((at + 1) * n + at + 3 ≤ n * n) × ((at + 2) * n + at + 3 ≤ n * n)
columns_end n at fit = (end at (omega arith), end (at + 1) (omega arith), end (at + 2) (omega arith))
  where
    end : (j : ℕ) → j < at + 3 → j * n + at + 3 ≤ n * n
    end j l = omega (arith, column-before n j n (omega arith))

-- three numbers of a part that were added: a column of the block, or the vector
module _ (cells : List Float) (k : ℕ) where
  three_added : (e base : ℕ) (v h : List Float) {h' : List Float} → v ≡ three_in cells k e → h' ≡ add_all h (segment base 3 (λ i. v ! i))
      → h' ≡ add_all h (segment base 3 (λ i. beside_of BATCH PART cells k ! (e + i)))
  three_added e base v h is added = added ∙ ap (add_all h) (segment-same base 3 _ _ (λ i l. rw is (get_or-tab 3 (λ j. beside_of BATCH PART cells k ! (e + j)) i l)))

  -- A PART ADDED: its block column after column, and its vector
  pub part_added : (n at : ℕ) {a b c d h h1 h2 h3 g g' : List Float}
      → a ≡ three_in cells k 0 → h1 ≡ add_all h (segment (at * n + at) 3 (λ i. a ! i))
      → b ≡ three_in cells k 3 → h2 ≡ add_all h1 (segment ((at + 1) * n + at) 3 (λ i. b ! i))
      → c ≡ three_in cells k 6 → h3 ≡ add_all h2 (segment ((at + 2) * n + at) 3 (λ i. c ! i))
      → d ≡ three_in cells k 9 → g' ≡ add_all g (segment at 3 (λ i. d ! i))
      → Added n at 3 (block_in cells k) (vector_in cells k) h h3 g g'
  part_added n at {a} {b} {c} {d} {h} {h1} {h2} {h3} {g} {g'} ia ea ib eb ic ec id ed =
      let e = block_in cells k in
      let first = block_more h h h1 n at 3 e 0 (upto-none h _) (rw (add-zero at) (three_added 0 (at * n + at) a h ia ea)) in
      let second = block_more h h1 h2 n at 3 e 1 first (three_added 3 ((at + 1) * n + at) b h1 ib eb) in
      let third = block_more h h2 h3 n at 3 e 2 second (three_added 6 ((at + 2) * n + at) c h2 ic ec) in
      record { hessian = block_all h h3 n at 3 3 e refl third; gradient = three_added 9 at d g id ed }

-- THE PART OF A FRAME: each premise is what one call of the code says, in the code's order
pub part_is : (x n : List Float) (f : Centred) (offset weight : Float) {r : Rows} {u v w g : List Float} {pull : Pull}
    → pull ≡ pull_of f (normal_in x n) (frame_along x f n offset) weight → r ≡ frame_rows x f n 3
    → u ≡ padded 9 3 (λ i. rows_entry r f.count weight i 0) → v ≡ padded 9 3 (λ i. rows_entry r f.count weight i 1) → w ≡ padded 9 3 (λ i. rows_entry r f.count weight i 2)
    → g ≡ padded 9 3 (rows_vector r pull.turn pull.shift weight)
    → numbers_of (record { block = (u ! 0) ∷ (u ! 1) ∷ (u ! 2) ∷ (v ! 0) ∷ (v ! 1) ∷ (v ! 2) ∷ (w ! 0) ∷ (w ! 1) ∷ (w ! 2) ∷ []; vector = (g ! 0) ∷ (g ! 1) ∷ (g ! 2) ∷ []; cost = pull.cost })
    ≡ part_of x f n offset weight
unfolding part_of vector_entry frame_cost
part_is x n f offset weight {r} {u} {v} {w} {g} {pull} hp hr hu hv hw hg =
    let entry = entry_is x n f 3 hr weight in
    let first = λ (i : ℕ) (l : i < 3). first_of 9 3 _ u hu i l ∙ entry i 0 l (omega arith) in
    let second = λ (i : ℕ) (l : i < 3). first_of 9 3 _ v hv i l ∙ entry i 1 l (omega arith) in
    let third = λ (i : ℕ) (l : i < 3). first_of 9 3 _ w hw i l ∙ entry i 2 l (omega arith) in
    let last = λ (i : ℕ) (l : i < 3). first_of 9 3 _ g hg i l ∙ vector_is x n f 3 hr pull.turn pull.shift weight i l in
    rw (
      first 0 (omega arith),
      first 1 (omega arith),
      first 2 (omega arith),
      second 0 (omega arith),
      second 1 (omega arith),
      second 2 (omega arith),
      third 0 (omega arith),
      third 1 (omega arith),
      third 2 (omega arith),
      last 0 (omega arith),
      last 1 (omega arith),
      last 2 (omega arith),
      hp,
    )
