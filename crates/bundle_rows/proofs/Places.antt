-- The cells of a frame's points are within its block, and their state columns within the list of them. Assumes nothing.
use Prim.Native.Nat.{ℕ, suc, ◌+◌, ◌*◌, ◌<◌, ◌≤◌}
use native.Mathlib.Nat.{mul-le-mul_right, mul-le-mul_left, mul-one, suc-mul}
use native.Mathlib.Omega.{arith}
use Rattle.sums.specs.Fill.{column_ends}
use Rattle.bundle_rows.specs.Steps.{Room}

-- column c of the point at row k
pub record Reached (dof rows k c state cells : ℕ) : Type 0 where
  pub row : k < rows
  pub within : k ≤ k * dof
  pub column : (k * dof + c) * 3 + 3 ≤ state
  pub place : c * rows + k < cells
  pub small : cells ≤ 589824

module _ (dof rows from count state cells : ℕ) (room : Room dof rows from count state cells) where
  pub reached : (k c : ℕ) → k < from + count → c < dof → Reached dof rows k c state cells
  reached k c h l =
      let next : suc k ≤ from + count = h in
      let some : 1 ≤ dof = omega arith in
      record {
        row = omega (arith, room.fits);
        within = rw mul-one at (mul-le-mul_left k some);
        column = omega (arith, room.enough, mul-le-mul_right dof next, suc-mul k dof);
        place = omega (arith, room.whole, room.fits, column_ends rows dof c l);
        small = omega (arith, room.whole, room.low, mul-le-mul_right rows room.narrow);
      }

  -- some of the rows
  pub part : (i size : ℕ) → i + size ≤ count → Room dof rows (from + i) size state cells
  part i size h =
      let fits : from + i + size ≤ from + count = omega arith in
      record {
        narrow = room.narrow;
        low = room.low;
        fits = omega (arith, room.fits);
        enough = omega (arith, room.enough, mul-le-mul_right dof fits);
        whole = room.whole;
      }
