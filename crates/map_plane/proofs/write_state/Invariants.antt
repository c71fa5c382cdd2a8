use Rattle.sums.specs.Fill.{First}
use Rattle.map_plane.specs.Linearize.{state_column}
use Rattle.map_plane.proofs.write_state.Given as goal

abbrev pub invariant-loop-c : goal.invariant-loop-c
invariant-loop-c l = First l.c l.row (state_column l.info l.n l.columns)
