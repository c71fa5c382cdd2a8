use Rattle.sums.specs.Fill.{Writing}
use Rattle.normal_blocks.specs.Target.{entry_of}
use Rattle.transform_products.proofs.lay_row.Given as goal

abbrev pub invariant-loop-j : goal.invariant-loop-j
invariant-loop-j l = Writing l.initial.out l.base l.width (entry_of 9 l.m l.i) l.out l.j
