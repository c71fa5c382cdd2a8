-- `frame_parts::add_three` meets its contract: three terms, one after the other. Assumes nothing.
use native.Mathlib.Nat.{add-zero}
use native.Mathlib.Omega.{arith}
use lib.ListN.{length-set}
use Rattle.terms.specs.Terms.{add_all, upto, cell_at, segment}
use Rattle.frame_parts.proofs.add_three.Goals as goal

pub returns : goal.returns
unfolding add_all segment upto cell_at
returns c = simp add-zero

pub bounds-out-base-3 : goal.bounds-out-base-3
bounds-out-base-3 c = simp length-set (omega arith)

pub bounds-out-base-4 : goal.bounds-out-base-4
bounds-out-base-4 c = simp length-set (omega arith)

pub bounds-out-base-5 : goal.bounds-out-base-5
bounds-out-base-5 c = simp length-set (omega arith)

pub bounds-out-base-6 : goal.bounds-out-base-6
bounds-out-base-6 c = simp length-set (omega arith)
