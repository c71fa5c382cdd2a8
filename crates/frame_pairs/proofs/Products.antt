-- What the calls make of a frame of six columns and its transform: columns of Tᵀ-as-M, of Tᵀ·M·T, and Tᵀ·v. Each premise is what one call of the code says. Assumes nothing.
use Prim.Native.Nat.{ℕ, zero, suc, ◌+◌, ◌*◌, ◌<◌}
use native.Mathlib.Omega.{arith}
use mathlib.Core.Path.{◌≡◌, ap, ◌∙◌}
use mathlib.Core.List.{List}
use lib.ListN.{get_or}
use lib.Ieee.{Float, nan}
use Rattle.sums.specs.Sum.{◌⊗◌, sum_to}
use Rattle.sums.specs.Laws.{sum_to-same}
use Rattle.sums.specs.Fill.{padded, first_of}
use Rattle.lists.specs.Part.{◌!◌}
use Rattle.normal_blocks.specs.Target.{number_from}
use Rattle.point_moments.specs.declared.scatter.Centred.{Centred}
use Rattle.frame_normal.specs.Normal.{normal_in}
use Rattle.frame_cost.specs.Cost.{pull_of, frame_along, frame_cost}
use Rattle.frame_cost.specs.declared.Pull.{Pull}
use Rattle.frame_segment.specs.Frame.{block_entry, pulled_entry}
use Rattle.frame_segment.specs.declared.Rows.{Rows}
use Rattle.frame_segment.specs.Steps.{frame_rows, rows_entry, rows_vector, entry_is, vector_is}
use Rattle.frame_parts.specs.Frame.{vector_entry}
use Rattle.block_transforms.specs.Transform.{entry_from, left_product, transformed_block, transformed_vector}

-- a fact of each of six
pub six : (P : ℕ → Type 0) → P 0 → P 1 → P 2 → P 3 → P 4 → P 5 → (q : ℕ) → q < 6 → P q
six P a b c d e f zero l = a
six P a b c d e f (suc zero) l = b
six P a b c d e f (suc (suc zero)) l = c
six P a b c d e f (suc (suc (suc zero))) l = d
six P a b c d e f (suc (suc (suc (suc zero)))) l = e
six P a b c d e f (suc (suc (suc (suc (suc zero))))) l = f
six P a b c d e f (suc (suc (suc (suc (suc (suc q)))))) l = absurd (omega arith)

-- one number of Tᵀ·x, as the code asks for it
pub dot_is : (t x : List Float) (at rows i from : ℕ) {r : Float} → from ≡ at + i * rows → r ≡ sum_to rows (λ q. number_from t from q ⊗ (x ! q)) → r ≡ transformed_vector rows (entry_from t at rows) (λ q. x ! q) i
unfolding transformed_vector entry_from number_from
dot_is t x at rows i from ef er =
    er ∙ sum_to-same rows _ _ (λ q h. let same : from + q ≡ at + (i * rows + q) = omega arith in ap (λ (p : ℕ). get_or t p nan ⊗ (x ! q)) same)

-- ---- a column of Tᵀ-as-M of a column of M, of entries m, and Tᵀ·v of a vector
module _ (rows : ℕ) (t : ℕ → ℕ → Float) (cols : ℕ) where
  pub vector_left : (v : ℕ → Float) (x : List Float) {u : List Float} → ((r : ℕ) → r < rows → x ! r ≡ v r) → u ≡ padded 9 cols (transformed_vector rows t (λ r. x ! r)) → (i : ℕ) → i < cols → u ! i ≡ transformed_vector rows t v i
  unfolding transformed_vector
  vector_left v x {u} are e i l = first_of 9 cols _ u e i l ∙ sum_to-same rows _ _ (λ r b. ap (λ y. t r i ⊗ y) (are r b))

  pub left_is : (m : ℕ → ℕ → Float) (q : ℕ) (x : List Float) {u : List Float} → ((r : ℕ) → r < rows → x ! r ≡ m r q) → u ≡ padded 9 cols (transformed_vector rows t (λ r. x ! r)) → (i : ℕ) → i < cols → u ! i ≡ left_product rows t m i q
  unfolding transformed_vector left_product
  left_is m q x are e i l = vector_left (λ r. m r q) x are e i l

-- ---- a column of Tᵀ·M·T of those of Tᵀ-as-M: as the code asks for its numbers, and what they are
pub right_is : (rows : ℕ) (t : List Float) (at cols j from : ℕ) (u : ℕ → List Float) {r : List Float} → from ≡ at + j * rows
    → r ≡ padded 9 cols (λ i. sum_to rows (λ q. (u q ! i) ⊗ number_from t from q)) → (i : ℕ) → i < cols → r ! i ≡ sum_to rows (λ q. (u q ! i) ⊗ entry_from t at rows q j)
unfolding entry_from number_from
right_is rows t at cols j from u {r} ef er i l =
    first_of 9 cols _ r er i l ∙ sum_to-same rows _ _ (λ q h. let same : from + q ≡ at + (j * rows + q) = omega arith in ap (λ (p : ℕ). (u q ! i) ⊗ get_or t p nan) same)

pub block_is : (rows cols : ℕ) (t m : ℕ → ℕ → Float) (u : ℕ → List Float) → ((q : ℕ) → q < rows → (i : ℕ) → i < cols → u q ! i ≡ left_product rows t m i q)
    → (i j : ℕ) → i < cols → sum_to rows (λ q. (u q ! i) ⊗ t q j) ≡ transformed_block rows t m i j
unfolding transformed_block
block_is rows cols t m u are i j l = sum_to-same rows _ _ (λ q h. ap (λ y. y ⊗ t q j) (are q h i l))

-- ---- what is made of the rows of a frame
module _ (x n : List Float) (f : Centred) {r : Rows} (hr : r ≡ frame_rows x f n 6) (weight : Float) where
  -- column j of the block
  pub column_is : (j : ℕ) → j < 6 → {c : List Float} → c ≡ padded 9 6 (λ i. rows_entry r f.count weight i j) → (i : ℕ) → i < 6 → c ! i ≡ block_entry x f n weight i j
  column_is j l {c} e i b = first_of 9 6 _ c e i b ∙ entry_is x n f 6 hr weight i j b l

  -- the vector, with the pull of a plane
  pub pulled_is : (offset : Float) {w : List Float} {pull : Pull} → pull ≡ pull_of f (normal_in x n) (frame_along x f n offset) weight
      → w ≡ padded 9 6 (rows_vector r pull.turn pull.shift weight) → (i : ℕ) → i < 6 → w ! i ≡ vector_entry x f n offset weight i
  unfolding vector_entry
  pulled_is offset {w} {pull} hp e i b =
      first_of 9 6 _ w e i b ∙ vector_is x n f 6 hr pull.turn pull.shift weight i b ∙ ap (λ (q : Pull). pulled_entry x f n q.turn q.shift weight i) hp

pub cost_is : (x n : List Float) (f : Centred) (offset weight : Float) {pull : Pull} → pull ≡ pull_of f (normal_in x n) (frame_along x f n offset) weight → pull.cost ≡ frame_cost x f n offset weight
unfolding frame_cost
cost_is x n f offset weight hp = ap (λ (q : Pull). q.cost) hp
