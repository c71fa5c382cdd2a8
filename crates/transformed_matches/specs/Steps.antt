-- A match list that is added through the transform of word 0: what the work may rely on, and what it leaves. Definitions only.
use Rattle.std.specs.Prelude.{ℕ, ◌*◌, ◌≤◌, ◌≡◌, false, List, length, Float, Option}
use Rattle.derivative.specs.Action.{most_dof, action_size}
use Rattle.lists.specs.Part.{◌!◌}
use Rattle.terms.specs.Terms.{add_all, segment, block}
use Rattle.normal_blocks.specs.Map.{lookup, exceeds}
use Rattle.normal_blocks.specs.Target.{hessian_at, gradient_at, entry_of}
use Rattle.match_sums.specs.Groups.{list_cost, list_block, list_vector}
use Rattle.block_transforms.specs.Transform.{ROOM, sized, shape_at, block_under, vector_under, width_under}
use Rattle.block_transforms.specs.Reasons.{MOST_COLUMNS}
use Rattle.block_transforms.specs.declared.Shape.{Shape}

-- the transform of word 0 fits, and its numbers are there
abbrev pub There : ℕ → Option Shape → List Float → Type 0
There dof s transforms = (rows cols : ℕ) → s ≡ sized rows cols → (cols ≤ MOST_COLUMNS) × (rows ≡ dof) × (ROOM ≤ length transforms)

-- the list is one frame that fits, and its transform is there
pub record Ready (m n dof : ℕ) (map shapes : List ℕ) (transforms action : List Float) : Type 0 where
  pub narrow : dof ≤ most_dof
  pub action_size_lem : length action ≡ action_size
  pub square : m ≡ n * n
  pub fits : exceeds n (width_under (shape_at shapes 0) dof) (lookup map 0) ≡ false
  pub there : There dof (shape_at shapes 0) transforms

-- a block m by columns and a vector v, of dof rows, added at row `at` under a shape s with the entries t
pub record SumsAdded (n at dof : ℕ) (s : Option Shape) (t : ℕ → ℕ → ℕ → Float) (m v h h' g g' : List Float) : Type 0 where
  pub hessian : h' ≡ add_all h (block n at (width_under s dof) (block_under s t (entry_of 9 m)))
  pub gradient : g' ≡ add_all g (segment at (width_under s dof) (vector_under s t (λ i. v ! i)))

-- the one frame added at the place p under a shape s with the entries t, and the list's cost
pub record ListAdded (n dof : ℕ) (s : Option Shape) (t : ℕ → ℕ → ℕ → Float) (p : Option ℕ) (x ms : List Float) (r : Float) (h h' g g' : List Float) : Type 0 where
  pub cost : r ≡ list_cost x ms
  pub hessian : h' ≡ add_all h (hessian_at n (width_under s dof) p (block_under s t (list_block x ms)))
  pub gradient : g' ≡ add_all g (gradient_at (width_under s dof) p (vector_under s t (list_vector x ms)))
