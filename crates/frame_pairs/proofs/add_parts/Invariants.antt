use mathlib.Core.Path.{◌≡◌}
use lib.ListN.{length}
use Rattle.frame_blocks.specs.Frames.{FirstAdded}
use Rattle.frame_pairs.specs.Pairs.{parts_in, cost_in}
use Rattle.frame_pairs.proofs.add_parts.Given as goal

abbrev pub invariant-loop-k : goal.invariant-loop-k
invariant-loop-k g l =
    (length l.h ≡ length l.initial.h) × (length l.g ≡ length l.initial.g) × FirstAdded (length l.initial.g) (parts_in g.row.COLS l.map l.cells l.from l.size) (cost_in g.row.COLS l.cells) l.k l.sum l.s l.initial.h l.h l.initial.g l.g
