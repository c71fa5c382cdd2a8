use Rattle.sums.specs.Fill.{Writing}
use Rattle.map_plane.specs.Linearize.{EXTRINSIC, projected}
use Rattle.map_plane.proofs.write_extrinsic.Given as goal

abbrev pub invariant-loop-c : goal.invariant-loop-c
invariant-loop-c l = Writing l.initial.row l.from EXTRINSIC (projected l.n l.columns) l.row l.c
