-- `transform_maps::write` meets its contract: the numbers copied are the first n of the column. Assumes nothing.
use Rattle.std.proofs.Common.{◌≡◌, ◌+◌, ◌-◌, arith, ◌∙◌, drop-drop}
use Rattle.sums.specs.Sum.{tab}
use Rattle.lists.specs.Part.{◌!◌}
use Rattle.sums.specs.Fill.{written}
use Rattle.transform_maps.proofs.Laws.{front_is}
use Rattle.transform_maps.proofs.write.Goals as goal

pub returns : goal.returns
unfolding written
returns c =
    let a = c.args in
    let n : (a.at + a.n) - a.at ≡ a.n = omega arith in
    let e : c.copy_from_slice.new.self ≡ tab a.n (λ k. a.column ! k) = c.copy_from_slice.ensures.after ∙ front_is a.n a.column (omega arith) in
    rw (n, e, drop-drop a.n a.at a.out.now)
