-- The derivatives of a plane's distance in a frame: of Aᵀn, and of nᵀ(A·p + b) at a point p. x is an action, n a normal.
use Rattle.std.specs.Prelude.{ℕ, zero, suc, ◌<◌, ◌≡◌, List, Float}
use Rattle.std.proofs.Common.{le_of_suc-le-suc, not-suc-le-zero, ◌∙◌}
use Rattle.std.proofs.Math.Path.{ap}
use Rattle.std.proofs.Math.ListN.{get_or}
use Rattle.std.specs.Float.{nan}
use Rattle.sums.specs.Sum.{◌⊗◌, sum_to, sum_from, off}
use Rattle.sums.specs.Laws.{sum_to-same, sum_from-same}
use Rattle.sums.specs.Fill.{padded, padded-same, first_of}
use Rattle.derivative.specs.Action.{entry_from, origin_place, axis_place}

-- Σ_r n_r · M(r,c), for the matrix M of three rows that starts at the place `from`
unfoldable pub normal_row : List Float → ℕ → List Float → ℕ → Float
normal_row x from n c = sum_to 3 (λ r. get_or n r nan ⊗ entry_from x from r c)

-- the same of the column that starts at the place i
abbrev pub normal_at : List Float → ℕ → List Float → Float
normal_at x i n = sum_to 3 (λ r. get_or n r nan ⊗ get_or x (off i r) nan)

-- Σ_l d(l,i) · s_l
unfoldable pub combined : (ℕ → ℕ → Float) → List Float → ℕ → Float
combined d s i = sum_to 3 (λ l. d l i ⊗ get_or s l nan)

-- ((o_i + d(0,i) · p_0) + d(1,i) · p_1) + d(2,i) · p_2
unfoldable pub shifted : (ℕ → Float) → (ℕ → ℕ → Float) → List Float → ℕ → Float
shifted o d p i = sum_from (o i) 3 (λ l. d l i ⊗ get_or p l nan)

-- D(k,c) = Σ_r n_r · axes_k(r,c), the derivative of entry k of Aᵀn
abbrev pub d_an : List Float → List Float → ℕ → ℕ → Float
d_an x n k c = normal_row x (axis_place k) n c

-- m_c = ((Σ_r n_r · origin(r,c) + D(0,c) · p_0) + D(1,c) · p_1) + D(2,c) · p_2, the derivative of nᵀ(A·p + b). A frame's p is its mean, a match's its point.
abbrev pub d_along : List Float → List Float → List Float → ℕ → Float
d_along x n p = shifted (normal_row x origin_place n) (d_an x n) p

-- P(i,k) = Σ_l D(l,i) · S(l,k), where s is column k of S
abbrev pub d_scatter : List Float → List Float → List Float → ℕ → Float
d_scatter x n s = combined (d_an x n) s

-- row l of three
abbrev pub rows : List Float → List Float → List Float → ℕ → ℕ → Float
rows a b c zero i = get_or a i nan
rows a b c (suc zero) i = get_or b i nan
rows a b c (suc (suc l)) i = get_or c i nan

-- ---- laws

-- of rows that are D's, the sums over three rows are m and P

module _ (x n : List Float) (width : ℕ) (a b c : List Float) (ha : a ≡ padded 9 width (d_an x n 0)) (hb : b ≡ padded 9 width (d_an x n 1)) (hc : c ≡ padded 9 width (d_an x n 2)) where
  rows_are : (i : ℕ) → i < width → (l : ℕ) → l < 3 → rows a b c l i ≡ d_an x n l i
  rows_are i h zero m = first_of 9 width _ a ha i h
  rows_are i h (suc zero) m = first_of 9 width _ b hb i h
  rows_are i h (suc (suc zero)) m = first_of 9 width _ c hc i h
  rows_are i h (suc (suc (suc l))) m = absurd (not-suc-le-zero (le_of_suc-le-suc (le_of_suc-le-suc (le_of_suc-le-suc m))))

  pub scatter-row : (s : List Float) → padded 9 width (combined (rows a b c) s) ≡ padded 9 width (d_scatter x n s)
  unfolding combined
  scatter-row s = padded-same 9 width _ _ (λ i h. sum_to-same 3 _ _ (λ l m. ap (λ y. y ⊗ get_or s l nan) (rows_are i h l m)))

  pub along-row : (p o : List Float) → o ≡ padded 9 width (normal_row x origin_place n) → padded 9 width (shifted (λ i. get_or o i nan) (rows a b c) p) ≡ padded 9 width (d_along x n p)
  unfolding shifted
  along-row p o ho =
      padded-same 9 width _ _ (λ i h. ap (λ y. sum_from y 3 (λ l. rows a b c l i ⊗ get_or p l nan)) (first_of 9 width _ o ho i h) ∙ sum_from-same _ 3 _ _ (λ l m. ap (λ y. y ⊗ get_or p l nan) (rows_are i h l m)))
