-- Laws of adding the parts of a pair, over the number of columns. Assumes nothing.
use Prim.Native.Nat.{ℕ, ◌+◌, ◌*◌, ◌≤◌, ◌<◌}
use native.Mathlib.Nat.{mul_comm}
use mathlib.Core.Path.{◌≡◌, refl}
use mathlib.Core.List.{List}
use lib.Ieee.{Float}
use Rattle.sums.specs.Sum.{◌⊕◌}
use Rattle.sums.specs.Fill.{column_ends}
use Rattle.lists.specs.Part.{◌!◌}
use Rattle.terms.specs.Terms.{add_all, segment, block}
use Rattle.std.specs.Prelude.{Option, Some, None}
use Rattle.normal_blocks.specs.Map.{lookup}
use Rattle.normal_blocks.specs.Target.{hessian_at, gradient_at}
use Rattle.normal_blocks.specs.TargetLaws.{hessian_mapped, gradient_mapped, hessian_unmapped, gradient_unmapped}
use Rattle.frame_blocks.specs.Frames.{FirstAdded, first_more}
use Rattle.frame_pairs.specs.Pairs.{lane, block_in, vector_in, cost_in, parts_in}

-- column j of a frame's block ends within the block
pub column_inside : (cols j : ℕ) → j < cols → cols * j + cols ≤ cols * cols
column_inside cols j l = rw (mul_comm cols j) (column_ends cols cols j l)

-- frame k's part of so many columns, at the place p
pub record PartAdded (order cols : ℕ) (p : Option ℕ) (cells : List Float) (k : ℕ) (h h' g g' : List Float) : Type 0 where
  pub hessian : h' ≡ add_all h (hessian_at order cols p (block_in cols cells k))
  pub gradient : g' ≡ add_all g (gradient_at cols p (vector_in cols cells k))

module _ (order cols : ℕ) (p : Option ℕ) (cells : List Float) (k : ℕ) where
  -- a part at an offset, and one that goes nowhere
  pub part_mapped : (at : ℕ) (h h' g g' : List Float) → p ≡ Some at → h' ≡ add_all h (block order at cols (block_in cols cells k))
      → g' ≡ add_all g (segment at cols (λ i. lane cells k (cols * cols + i))) → PartAdded order cols p cells k h h' g g'
  unfolding vector_in
  part_mapped at h h' g g' mapped eh eg = record {
    hessian = hessian_mapped cols p at mapped order (block_in cols cells k) h h' eh;
    gradient = gradient_mapped cols p at mapped (vector_in cols cells k) g g' eg;
  }

  pub part_unmapped : (h g : List Float) → p ≡ None → PartAdded order cols p cells k h h g g
  part_unmapped h g nowhere = record {
    hessian = hessian_unmapped cols p nowhere order (block_in cols cells k) h;
    gradient = gradient_unmapped cols p nowhere (vector_in cols cells k) g;
  }

-- one frame more of a pair
pub parts_more : (order cols : ℕ) (map : List ℕ) (cells : List Float) (from size k : ℕ) (p : Option ℕ) (s r v : Float) (h h' h'' g g' g'' : List Float) → p ≡ lookup map (from + k)
    → v ≡ cells ! (2 * (cols * cols + cols) + k) → PartAdded order cols p cells k h' h'' g' g'' → FirstAdded order (parts_in cols map cells from size) (cost_in cols cells) k s r h h' g g'
    → FirstAdded order (parts_in cols map cells from size) (cost_in cols cells) (k + 1) s (r ⊕ v) h h'' g g''
unfolding cost_in lane
parts_more order cols map cells from size k p s r v h h' h'' g g' g'' ep ev a before =
    first_more order (parts_in cols map cells from size) _ k p (block_in cols cells k) (vector_in cols cells k) v s r h h' h'' g g' g'' ep (λ i j li lj. refl) (λ i li. refl) ev a.hessian a.gradient before
