use Prim.Native.Nat.{◌*◌}
use mathlib.Core.Path.{◌≡◌}
use lib.ListN.{length}
use Rattle.sums.specs.Fill.{Columns}
use Rattle.bundle_rows.specs.Rows.{start}
use Rattle.bundle_rows.proofs.Blocks.{block_number}
use Rattle.bundle_rows.proofs.write_jacobian.Given as goal

abbrev pub invariant-loop-f : goal.invariant-loop-f
invariant-loop-f l =
    (l.from ≡ start l.counts l.f) × Columns (l.dof * l.rows) (length l.counts) (block_number l.counts l.dof l.state l.fn.n l.info l.rows) l.initial.jacobian l.jacobian l.f
