-- An action as it is handed in: 120 numbers, the affine map s ↦ A·s + b and its derivative, every matrix by columns.
use Rattle.std.specs.Prelude.{ℕ, ◌+◌, ◌*◌, List, get_or, Float}
use Rattle.std.specs.Float.{nan}
use Rattle.sums.specs.Sum.{off}

-- ---- the places

abbrev pub action_size : ℕ
action_size = 120

-- the most columns that its derivative has
abbrev pub most_dof : ℕ
most_dof = 9

-- of A, 3 by 3
abbrev pub matrix_place : ℕ
matrix_place = 0

-- of b, 3 numbers
abbrev pub shift_place : ℕ
shift_place = 9

-- of `origin`, 3 by 9
abbrev pub origin_place : ℕ
origin_place = 12

-- of `axes` for the coordinate k of the point, 3 by 9 each
abbrev pub axis_place : ℕ → ℕ
axis_place k = 39 + 27 * k

-- ---- what stands there

-- the entry at r and c of the matrix of three rows that starts at the place `from`
abbrev pub entry_from : List Float → ℕ → ℕ → ℕ → Float
entry_from x from r c = get_or x (off (from + 3 * c) r) nan

-- A(r,c)
abbrev pub action_matrix : List Float → ℕ → ℕ → Float
action_matrix x r c = entry_from x matrix_place r c

-- b_r
abbrev pub action_shift : List Float → ℕ → Float
action_shift x r = get_or x (off shift_place r) nan

-- origin(r,c): how b changes with the state's coordinate c
abbrev pub origin : List Float → ℕ → ℕ → Float
origin x r c = entry_from x origin_place r c

-- axes_k(r,c): how column k of A changes with the state's coordinate c
abbrev pub axis : List Float → ℕ → ℕ → ℕ → Float
axis x k r c = entry_from x (axis_place k) r c
