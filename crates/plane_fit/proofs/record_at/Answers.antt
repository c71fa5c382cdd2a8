-- `plane_fit::record_at` meets its contract: a record is whole exactly below the number of whole ones. Assumes nothing.
use mathlib.Core.Path.{◌≡◌, sym}
use Prim.Native.Nat.{ℕ, ◌+◌, ◌*◌, ◌-◌}
use native.Mathlib.Omega.{arith}
use borrow.Author.Tests.{lt-leb}
use lib.ListN.{length}
use Rattle.plane_fit.specs.Records.{record_of, record_is, whole, short}
use Rattle.plane_fit.proofs.record_at.Goals as goal

cancel : (a b : ℕ) → a + b - a ≡ b
cancel a b = omega arith

pub returns-then-k-list : goal.returns-then-k-list
returns-then-k-list c =
    let a = c.args in
    rw (cancel (a.size * a.k) a.size) (sym (record_is a.size a.list.now a.k (whole a.size a.list.now a.k c.requires c.if-k-list.true)))

pub returns : goal.returns
unfolding record_of
returns c =
    let a = c.args in
    rw (lt-leb (a.size * a.k + a.size) (length a.list.now) (short a.size a.list.now a.k c.requires c.if-k-list.false))
