-- The root of a set's scatter by its decomposition. Definitions, and one law.
-- ds: decompositions by their bit patterns, one after the other.
use Rattle.std.specs.Prelude.{ℕ, ◌+◌, ◌*◌, ◌≤◌, ◌≡◌, cond, List, [], ◌∷◌, length, take, drop, Float}
use Rattle.std.proofs.Common.{arith, length-take, length-drop}
use Rattle.std.specs.Float.Ieee.{lt}
use Rattle.sums.specs.Sum.{zero_f, scaled}
use Rattle.lists.specs.Part.{◌!◌}
use Rattle.square_root.specs.Computed.{square_root}
use Rattle.decomposition.specs.Axes.{DECOMPOSITION, number_at, vector_of}
use Rattle.frame_roots.specs.declared.Root.{Root}

-- "one below 0 or NaN taken as 0": +0, and +0 for -0 too
unfoldable pub at_least_zero : Float → Float
at_least_zero value = cond (lt zero_f value) value zero_f

-- what the roots of a set are taken of: its eigenvalues so, and its count
abbrev pub radicands_of : List ℕ → Float → List Float
radicands_of d count = at_least_zero (number_at d 0) ∷ at_least_zero (number_at d 1) ∷ at_least_zero (number_at d 2) ∷ count ∷ []

-- "row k as vector k times the square root of the eigenvalue": R(k,l) = V_k(l)·scale_k, by the index k of the decomposition and not sorted
abbrev pub root_row : List ℕ → ℕ → List Float
root_row d k = scaled 3 (vector_of d k) (square_root (at_least_zero (number_at d k)))

-- the three rows of R, and sqrt(count)
abbrev pub root_of : List ℕ → Float → Root
root_of d count = record { first = root_row d 0; second = root_row d 1; third = root_row d 2; last = square_root count }

-- the same with the four roots in hand
abbrev pub root_with : List ℕ → List Float → Root
root_with d v = record { first = scaled 3 (vector_of d 0) (v ! 0); second = scaled 3 (vector_of d 1) (v ! 1); third = scaled 3 (vector_of d 2) (v ! 2); last = v ! 3 }

-- decomposition k of the list, which has all its patterns where the list holds it whole
abbrev pub decomposition_at : List ℕ → ℕ → List ℕ
decomposition_at ds k = take DECOMPOSITION (drop (k * DECOMPOSITION) ds)

pub decomposition_whole : (ds : List ℕ) (k : ℕ) → k * DECOMPOSITION + DECOMPOSITION ≤ length ds → length (decomposition_at ds k) ≡ DECOMPOSITION
decomposition_whole ds k h = simp (length-take, length-drop) (omega arith)
