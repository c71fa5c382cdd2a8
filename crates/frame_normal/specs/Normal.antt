-- A plane as one frame sees it: "a_n = Aᵀ·normal, along = normal·(A·mean + b) + offset". x is an action, n a normal. Definitions only.
use Rattle.std.specs.Prelude.{List, Float}
use Rattle.sums.specs.Sum.{◌⊕◌, ◌⊗◌, sum_to, tab, dot}
use Rattle.lists.specs.Part.{◌!◌}
use Rattle.derivative.specs.Action.{action_matrix}

-- a_c = Σ_r A(r,c)·n_r
abbrev pub normal_in : List Float → List Float → List Float
normal_in x n = tab 3 (λ c. sum_to 3 (λ r. action_matrix x r c ⊗ n ! r))

-- (Σ n_r·w_r) + offset. A frame's w is its mean carried into the site; no action touches the fixed set, and its w is its mean.
abbrev pub along_of : List Float → Float → List Float → Float
along_of n offset w = dot 3 n w ⊕ offset
