-- `frame_rows::clear_part` meets its contract: as many zeros as the part has places. Assumes nothing.
use Rattle.std.proofs.Common.{◌≡◌, ◌+◌, ◌-◌, length, take, drop, ap, ◌∙◌, arith, length-take, length-drop}
use Rattle.std.specs.Prelude.{replicate}
use Rattle.sums.specs.Sum.{zero_f}
use Rattle.frame_roots.proofs.Puts.{part-put, zeros}
use Rattle.frame_rows.proofs.clear_part.Goals as goal

pub returns : goal.returns
returns c =
    let a = c.args in
    let many : length (take (a.at + a.many - a.at) (drop a.at a.out.now)) ≡ a.many = simp (length-take, length-drop) (omega arith) in
    part-put _ _ a.at _ a.many _ (omega arith) (c.clear.ensures ∙ ap (λ n. replicate n zero_f) many ∙ zeros a.many)
