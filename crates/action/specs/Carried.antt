-- A point carried into the site by an action x: A·p + b. Definitions only.
use Rattle.std.specs.Prelude.{List, Float}
use Rattle.sums.specs.Sum.{◌⊕◌, ◌⊗◌, sum_to, tab}
use Rattle.lists.specs.Part.{◌!◌}
use Rattle.derivative.specs.Action.{action_matrix, action_shift}

-- w_r = (Σ_c A(r,c)·p_c) + b_r
abbrev pub carried : List Float → List Float → List Float
carried x p = tab 3 (λ r. sum_to 3 (λ c. action_matrix x r c ⊗ p ! c) ⊕ action_shift x r)
