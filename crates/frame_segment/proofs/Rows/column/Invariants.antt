use Rattle.sums.specs.Fill.{Filling}
use Rattle.frame_segment.specs.Steps.{rows_entry}
use Rattle.frame_segment.proofs.Rows.column.Given as goal

abbrev pub invariant-loop-i : goal.invariant-loop-i
invariant-loop-i l = Filling 9 l.width (λ i. rows_entry l.self l.count l.weight i l.j) l.column l.i
