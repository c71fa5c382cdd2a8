use Prim.Native.Nat.{◌≤◌, ◌*◌}
use mathlib.Core.Path.{◌≡◌}
use Rattle.bundle_rows.specs.Rows.{start}
use Rattle.plane_bundle.proofs.total.Given as goal

abbrev pub invariant-loop-count : goal.invariant-loop-count
invariant-loop-count l = (l.sum ≡ start l.counts l.count-index) × (l.sum ≤ l.count-index * 4294967295)
