-- `transformed_frames::frames::in_pairs` meets its contract: where it says so, both numbers were tested. Assumes nothing.
use Prim.Native.Nat.{ℕ}
use mathlib.Core.Path.{◌≡◌}
use mathlib.Core.Logic.{inl, inr}
use native.Mathlib.Omega.{arith}
use borrow.Author.Tests.{eqb-true}
use Rattle.transformed_frames.proofs.frames.in_pairs.Goals as goal

pub returns-then-rows-ne6 : goal.returns-then-rows-ne6
returns-then-rows-ne6 c e = let z : ◌≡◌ {A = ℕ} 0 1 = cc e in absurd (omega arith)

pub returns-then-cols-eq3 : goal.returns-then-cols-eq3
returns-then-cols-eq3 c e = (c.if-rows-ne6.false, inl c.if-cols-eq3.true)

pub returns : goal.returns
returns c e = (c.if-rows-ne6.false, inr (eqb-true _ _ e))
