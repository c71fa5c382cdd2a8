-- The residuals of a match list, the numbers of its rows as the code works them out, and how far a pass over the matches has come that writes
-- residuals and first columns. Assumes nothing.
use Rattle.std.specs.Prelude.{ℕ, ◌+◌, ◌*◌, ◌/◌, ◌<◌, ◌≤◌, ◌≡◌, refl, List, length, set, Float}
use Rattle.std.proofs.Common.{◌∙◌, arith, length-set}
use Rattle.sums.specs.Sum.{◌⊕◌, ◌⊗◌, tab, grid, dot, plus, product}
use Rattle.sums.specs.Fill.{First, first-none, first_more, first_all}
use Rattle.derivative.specs.Action.{action_matrix, action_shift}
use Rattle.map_plane.specs.Match.{MATCH, match_at, point, normal, offset, information}
use Rattle.match_rows.specs.Row.{residual_at, information_at, row_at}
use Rattle.match_rows.specs.ByRows.{by_rows, row_by, row_by_at, row_is}
use Rattle.match_columns.specs.Columns.{Grown, Done, Filled, filled_none, filled_row, filled_all, done_all}

-- a residual a match
abbrev pub residuals : List Float → List Float → List Float
residuals x ms = tab (length ms / MATCH) (residual_at x ms)

-- the row of match k, worked out from an action by rows
unfoldable pub rows_by : List Float → List Float → ℕ → ℕ → Float
rows_by t ms k = row_by t (point (match_at ms k)) (normal (match_at ms k)) (information (match_at ms k))

-- after k of n matches: their residuals, and w columns of their rows
abbrev pub Begun : List Float → List Float → List Float → ℕ → ℕ → ℕ → List Float → List Float → List Float → Type 0
Begun x t ms n w k r j j' =
    (k ≤ n) × (length r ≡ n) × (length j' ≡ length j) × First k r (residual_at x ms) × Filled n 0 w k 0 (rows_by t ms) j j'

-- ---- laws
-- the residual from the action's matrix and shift as they were read
pub residual_is : (x ms m q turned carried : List Float) (k : ℕ) (d : Float) → m ≡ grid 3 3 (action_matrix x) → q ≡ tab 3 (action_shift x)
    → turned ≡ product 3 3 1 m (point (match_at ms k)) → carried ≡ plus 3 turned q → d ≡ dot 3 (normal (match_at ms k)) carried
    → (d ⊕ offset (match_at ms k)) ⊗ information (match_at ms k) ≡ residual_at x ms k
unfolding residual_at
residual_is x ms m q turned carried k d em eq et ec ed = rw (ed, ec, et, em, eq)

pub begun_none : (x t ms : List Float) (n w : ℕ) (r j : List Float) → length r ≡ n → Begun x t ms n w 0 r j j
begun_none x t ms n w r j e = (omega arith, e, refl, first-none r (residual_at x ms), filled_none n 0 w (rows_by t ms) j)

pub begun_more : (x t ms : List Float) (n w k : ℕ) (r j j' j'' : List Float) (v : Float) → k < n → v ≡ residual_at x ms k
    → Filled n 0 w k w (rows_by t ms) j j'' → Begun x t ms n w k r j j' → Begun x t ms n w (k + 1) (set r k v) j j''
begun_more x t ms n w k r j j' j'' v kn is filled h =
    (omega arith, length-set r k v ∙ h.1, filled.size, first_more r (residual_at x ms) k v (omega arith) is h.3, filled_row n 0 w k (rows_by t ms) j j'' filled)

pub begun_all : (x t ms : List Float) (n w k : ℕ) (r j j' : List Float) → n ≡ length ms / MATCH → n ≤ k → Begun x t ms n w k r j j'
    → (r ≡ residuals x ms) × Grown n 0 (0 + w) (rows_by t ms) j j'
begun_all x t ms n w k r j j' e nk h =
    let z : k ≡ length ms / MATCH = omega arith in
    (first_all _ r (residual_at x ms) (h.1 ∙ e) (rw z at h.3), filled_all n 0 w k (rows_by t ms) j j' nk h.4)

-- a matrix whose columns were worked out from the action by rows has the matches' rows
pub rows_all : (x t ms j : List Float) (n dof : ℕ) → t ≡ by_rows x → dof ≤ 9 → length j ≡ dof * n → Done n dof (rows_by t ms) j → j ≡ grid n dof (row_at x ms)
unfolding rows_by row_by_at information_at
rows_all x t ms j n dof e w size done =
    done_all n dof (row_at x ms) j size (record { cells = λ i d il dl. done.cells i d il dl ∙ row_is x t ms i (information_at ms i) dof d e refl w dl })
