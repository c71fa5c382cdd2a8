-- `match_sums::match_sums` meets its contract: the groups summed, the upper half mirrored. Assumes nothing.
use lib.ListN.{get_or-replicate, length-replicate}
use lib.Ieee.{nan}
use mathlib.Core.Path.{◌∙◌}
use Rattle.sums.specs.Sum.{zero_f}
use Rattle.match_sums.proofs.Whole.{whole_cell, whole_number}
use borrow.Author.Rules.{rules}
use Rattle.match_sums.proofs.match_sums.Goals as goal

pub returns : goal.returns
returns c =
    let a = c.args in
    let x = a.x.now in
    let ms = a.list.now in
    let s = c.add_groups-cost.ensures.1 in
    record {
      cost_is = c.add_groups-cost.ensures.0;
      block_is = λ i j h l. rw c.mirrored-block.ensures (whole_cell x ms a.dof _ _ _ _ (search rules) (λ p l. get_or-replicate 81 p zero_f nan l) (λ p l. get_or-replicate 9 p zero_f nan l) s i j h l);
      vector_is = λ i l. whole_number x ms a.dof _ _ _ _ (search rules) (λ p l. get_or-replicate 81 p zero_f nan l) (λ p l. get_or-replicate 9 p zero_f nan l) s i l;
      block_size = rw c.mirrored-block.ensures;
      vector_size = s.long ∙ length-replicate 9 zero_f;
    }
